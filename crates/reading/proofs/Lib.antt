mod Joined
mod Lines
mod Requests
mod Spelling
mod Told
mod Values
