-- What every call that is taken keeps holds after every lawful history.
use Rattle.std.proofs.Common.{◌≡◌, false, [], ◌∷◌, is_some, None, Option, sym, refl, ◌∙◌, ◌++◌, rules}
use Rattle.std.proofs.lemmas.Bool.{cond_both}
use Rattle.rulebook.specs.declared.call.Call.{Call}
use Rattle.rulebook.specs.Notebook.{Rules}
use Rattle.rulebook.specs.Desk.{Desk, taken}
use Rattle.rulebook.specs.Grounds.{ground}
use Rattle.rulebook.specs.Histories.{History, step, fed, Rightly}

pub none_from : {X : Type 0} (x : Option X) → is_some x ≡ false → x ≡ None
none_from x e = search rules

pub fed_append : (rules : Rules) (d : Desk) (g h : History) → fed rules d (g ++ h) ≡ fed rules (fed rules d g) h
fed_append rules d [] h = refl
fed_append rules d (e ∷ es) h = fed_append rules (step rules d e) es h

module _ (rules : Rules) (P : Desk → Type 0) (keeps : (d : Desk) (call : Call) → ground rules d call ≡ None → P d → P (taken rules d call)) where
  pub always : (d : Desk) (h : History) → Rightly rules d h → P d → P (fed rules d h)
  always d [] right p = p
  always d (e ∷ es) right p =
      always (step rules d e) es right.1
      (cond_both e.refused d (taken rules d e.call) P (λ f. p) (λ f. keeps d e.call (none_from _ (sym right.0 ∙ f)) p))
