-- A flaw, or what a word says, told of one word after another.
use Rattle.std.proofs.Common.{◌≡◌, ℕ, List, IsErrAnd, Some, None, Ok, Err, Option, Result, sym, refl, ap, ◌∙◌}
use Rattle.refusal.specs.Grounds.{unless}
use Rattle.reading.specs.Flaws.{first_of}

right : {F X : Type 0} (o : Option F) (value x : X) → Ok x ≡ unless o value → (o ≡ None) × (x ≡ value)
right None value x h = (refl, cc)
right (Some flaw) value x h = cc

wrong : {F X : Type 0} (o : Option F) (value : X) (flaw : F) → Err flaw ≡ unless o value → o ≡ Some flaw
wrong None value flaw h = cc
wrong (Some other) value flaw h = cc

-- a word that is right leaves the answer to the words behind it
pub passes : {F X V : Type 0} (flaw : List ℕ → Option F) (value : List ℕ → X) (word same : List ℕ) (x : X) (later : Option F) (v : V) → word ≡ same → Ok x ≡ unless (flaw word) (value word) → unless (first_of (flaw same) later) v ≡ unless later v
passes flaw value word same x later v e h =
    ap (λ w. unless (first_of (flaw w) later) v) (sym e) ∙ ap (λ o. unless (first_of o later) v) (right (flaw word) (value word) x h).0

-- and says its value
pub says : {F X : Type 0} (flaw : List ℕ → Option F) (value : List ℕ → X) (word same : List ℕ) (x : X) → word ≡ same → Ok x ≡ unless (flaw word) (value word) → x ≡ value same
says flaw value word same x e h = (right (flaw word) (value word) x h).1 ∙ ap value e

-- a word that is wrong is told
pub stops : {F X V : Type 0} (flaw : List ℕ → Option F) (value : List ℕ → X) (word same : List ℕ) (f : F) (later : Option F) (v : V) → word ≡ same → Err f ≡ unless (flaw word) (value word) → Err f ≡ unless (first_of (flaw same) later) v
stops flaw value word same f later v e h =
    ap (λ o. unless (first_of o later) v) (sym (wrong (flaw word) (value word) f h)) ∙ ap (λ w. unless (first_of (flaw w) later) v) e

-- a flaw handed on by `?`
pub exits : {T F : Type 0} (r answer : Result T F) (f : F) → IsErrAnd r (λ y. y ≡ f) → Err f ≡ answer → r ≡ answer
exits (Err y) answer f e h = ap Err e ∙ h
exits (Ok x) answer f e h = absurd e
