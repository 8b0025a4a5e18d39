-- The codes of the trades, which nothing that happens to a trade changes.
use Rattle.std.proofs.Common.{◌≡◌, ℕ, ◌+◌, Bool, List, [], ◌∷◌, map, Some, None, filter, Option, refl, ◌∙◌, arith}
use Rattle.std.specs.List.{find, AllByRecursion as All}
use Rattle.std.proofs.lemmas.Bool.{cond_both}
use Rattle.report.specs.declared.report.Code.{Code}
use Rattle.report.specs.declared.state.Event.TheVariants.{Due}
use Rattle.rulebook.specs.declared.record.Record.{Record}
use Rattle.rulebook.specs.Lists.{where_some, and_then}
use Rattle.rulebook.specs.Taken.{changed, met, published_from}

abbrev pub codes_of : List Record → List Code
codes_of ts = map (λ t. t.code) ts

pub changed_codes : (code : Code) (f : Record → Record) → ((t : Record) → (f t).code ≡ t.code) → (ts : List Record)
    → codes_of (changed code f ts) ≡ codes_of ts
changed_codes code f same [] = refl
changed_codes code f same (t ∷ ts) = grind (arith, same t, changed_codes code f same ts)

pub published_codes : (day number : ℕ) (ds ts : List Record) → codes_of (published_from day number ds ts) ≡ codes_of ts
published_codes day number [] ts = refl
published_codes day number (d ∷ ds) ts =
    published_codes day (number + 1) ds (changed d.code (met Due (record { day = day; number = number })) ts)
    ∙ changed_codes d.code (met Due (record { day = day; number = number })) (λ t. refl) ts

-- trades kept by a test on the code are kept with their codes
pub kept_codes : (p : Code → Bool) (ts : List Record) → codes_of (filter (λ t. p t.code) ts) ≡ filter p (codes_of ts)
kept_codes p [] = refl
kept_codes p (t ∷ ts) = grind (arith, kept_codes p ts)

-- a fact of each code is a fact of each trade's
pub all_coded : (P : Code → Type 0) (ts : List Record) → All P (codes_of ts) → All (λ t. P t.code) ts
all_coded P [] h = tt
all_coded P (t ∷ ts) (p, h) = (p, all_coded P ts h)

-- what follows from the first that passes
pub and_first : {X Y : Type 0} (P : Option Y → Type 0) (R : X → Type 0) (p : X → Bool) (f : X → Option Y) (xs : List X)
    → P None → ((x : X) → R x → P (f x)) → All R xs → P (and_then (find p xs) f)
and_first P R p f [] none some h = none
and_first P R p f (x ∷ xs) none some (q, h) =
    cond_both (p x) (Some x) (find p xs) (λ o. P (and_then o f)) (λ e. some x q) (λ e. and_first P R p f xs none some h)

pub and_any : {X Y : Type 0} (P : Option Y → Type 0) (o : Option X) (f : X → Option Y) → P None → ((x : X) → P (f x)) → P (and_then o f)
and_any P None f none some = none
and_any P (Some x) f none some = some x

-- what is listed of the first that passes
pub all_first : {X Y : Type 0} (Q : Y → Type 0) (p : X → Bool) (f : X → List Y) (xs : List X) → All (λ x. All Q (f x)) xs → All Q (where_some (find p xs) f)
all_first Q p f [] h = tt
all_first Q p f (x ∷ xs) (q, h) =
    cond_both (p x) (Some x) (find p xs) (λ o. All Q (where_some o f)) (λ e. q) (λ e. all_first Q p f xs h)
