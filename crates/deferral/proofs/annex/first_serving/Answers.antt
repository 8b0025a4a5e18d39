use Rattle.std.proofs.Common.{◌≡◌, leb, rules, tests, None, Some, Option, unwrap_or, refl, ap, ◌∙◌}
use Rattle.std.proofs.lemmas.Iterator.{YieldsList-from_slice}
use Rattle.std.proofs.lemmas.Iterator.Search.{find_from_yields_List}
use Rattle.std.specs.Option.{option_map}
use Rattle.deferral.specs.Rows.{steps_of, smallest}
use Rattle.deferral.specs.declared.row.Row.{Row}
use Rattle.deferral.proofs.annex.first_serving.Goals as goal

steps_unwrapped : (found : Option Row) (other : Row) → steps_of (unwrap_or found other) ≡ unwrap_or (option_map steps_of found) (steps_of other)
steps_unwrapped None other = refl
steps_unwrapped (Some row) other = refl

pub returns : goal.returns
returns c =
    let found = find_from_yields_List (λ r. leb r.from c.args.daily) _ _ c.find.result c.find.ensures.ran (YieldsList-from_slice c.args.rows.now cc) (λ x b q k. search (rules, tests)) in
    ap steps_of c.unwrap_or.ensures ∙ steps_unwrapped c.copied.result _ ∙ ap (λ rows. unwrap_or (option_map steps_of rows) smallest) (c.copied.ensures ∙ found)
