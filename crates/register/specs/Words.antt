-- The words in which a call that changes a register says why it is refused.
use Rattle.std.specs.Prelude.{ℕ, List, codes}
use Rattle.register.specs.declared.answers.PutError.{PutError}
use Rattle.register.specs.declared.answers.PutError.TheVariants.{Present, Full}

abbrev pub put_words : PutError → List ℕ
put_words Present = codes "the key is in already"
put_words Full = codes "there is no place for the key"

abbrev pub absent_words : List ℕ
absent_words = codes "the key is not in"
