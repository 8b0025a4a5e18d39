-- The days in a row of places: what a search of the places finds, and what stands in the first and the third.
use Rattle.std.proofs.Common.{◌≡◌, ℕ, suc, ◌+◌, ◌-◌, Bool, true, false, cond, not, ◌||◌, eqb, List, [], ◌∷◌, map, length, get_or, take, is_some, Some, None, Option, sym, refl, ap, ◌∙◌, arith}
use Rattle.std.specs.List.{flat_map, find, list_any, position, position_from}
use Rattle.std.specs.Option.{option_and_then, option_map, option_to_list}
use Rattle.std.proofs.lemmas.Iterator.Adapters.{position_from-zero}
use Rattle.std.proofs.lemmas.Bool.{and_parts, both_ways, eqb-true}
use Rattle.deferral.specs.declared.opened.Opened.{Opened}
use Rattle.rulebook.specs.Notebook.{among}
use Rattle.ledger.specs.declared.held_day.HeldDay.{HeldDay}
use Rattle.ledger.specs.HeldDay.{is_day, holds, new_day, lowered}
use Rattle.ledger.specs.Days.{newest, slot_of, falls_out, with_opened}
use Rattle.ledger.specs.Packed.{in_front, packed}

-- the rules' word for the place that is found
slot_found : (day : ℕ) (hs : List HeldDay) → position (is_day day) hs ≡ slot_of day (map (λ h. h.opened) hs)
slot_found day hs =
    position_from-zero (is_day day) hs ∙ from_slot 0 hs ∙ sym (position_from-zero (λ o. eqb o.day day) (map (λ h. h.opened) hs))
  where
    from_slot : (k : ℕ) (hs : List HeldDay) → position_from (is_day day) k hs ≡ position_from (λ o. eqb o.day day) k (map (λ h. h.opened) hs)
    from_slot k [] = refl
    from_slot k (h ∷ hs) = ap (cond (is_day day h) (Some k)) (from_slot (k + 1) hs)

-- a search of the places finds what is among the days
pub any_stands : (day : ℕ) (os : List (Option HeldDay)) → list_any (holds day) os ≡ among (map (λ h. h.opened) (flat_map option_to_list os)) day
any_stands day [] = refl
any_stands day (None ∷ os) = any_stands day os
any_stands day (Some h ∷ os) = ap (λ b. is_day day h || b) (any_stands day os)

pub find_stands : (day : ℕ) (os : List (Option HeldDay)) → option_and_then (λ o. o) (find (holds day) os) ≡ find (is_day day) (flat_map option_to_list os)
find_stands day [] = refl
find_stands day (None ∷ os) = find_stands day os
find_stands day (Some h ∷ os) = by (is_day day h) (find (holds day) os) (find_stands day os) where
  by : (b : Bool) (q : Option (Option HeldDay)) {r : Option HeldDay} → option_and_then (λ o. o) q ≡ r → option_and_then (λ o. o) (cond b (Some (Some h)) q) ≡ cond b (Some h) r
  by true q e = refl
  by false q e = e

-- where the empty places come last, the latest day stands in the first
none_behind : {X : Type 0} (os : List (Option X)) → not (list_any is_some os) ≡ true → flat_map option_to_list os ≡ []
none_behind [] e = refl
none_behind (None ∷ os) e = none_behind os e
none_behind (Some x ∷ os) e = absurd (both_ways false refl e)

-- and a day has the same place among them as among the days
none_holds : (day k : ℕ) (os : List (Option HeldDay)) → not (list_any is_some os) ≡ true → position_from (holds day) k os ≡ None
none_holds day k [] e = refl
none_holds day k (None ∷ os) e = none_holds day (k + 1) os e
none_holds day k (Some h ∷ os) e = absurd (both_ways false refl e)

place_from : (day k : ℕ) (os : List (Option HeldDay)) → in_front os ≡ true → position_from (holds day) k os ≡ position_from (is_day day) k (flat_map option_to_list os)
place_from day k [] p = refl
place_from day k (None ∷ os) p = none_holds day (k + 1) os p ∙ sym (ap (position_from (is_day day) k) (none_behind os p))
place_from day k (Some h ∷ os) p = ap (cond (is_day day h) (Some k)) (place_from day (k + 1) os p)

pub slot_stands : (day : ℕ) (os : List (Option HeldDay)) → packed os ≡ true → position (holds day) os ≡ slot_of day (map (λ h. h.opened) (flat_map option_to_list os))
slot_stands day os p =
    position_from-zero (holds day) os ∙ place_from day 0 os (and_parts (eqb (length os) 3) (in_front os) p).1
    ∙ sym (position_from-zero (is_day day) (flat_map option_to_list os)) ∙ slot_found day (flat_map option_to_list os)

pub latest_stands : (os : List (Option HeldDay)) → packed os ≡ true → get_or os 0 None ≡ newest (flat_map option_to_list os)
latest_stands [] p = refl
latest_stands (None ∷ os) p = sym (ap newest (none_behind os (and_parts (eqb (suc (length os)) 3) (not (list_any is_some os)) p).1))
latest_stands (Some h ∷ os) p = refl

pub no_days : (os : List (Option HeldDay)) → packed os ≡ true → get_or os 0 None ≡ None → flat_map option_to_list os ≡ []
no_days [] p e = refl
no_days (None ∷ os) p e = none_behind os (and_parts (eqb (suc (length os)) 3) (not (list_any is_some os)) p).1
no_days (Some h ∷ os) p e = absurd cc

-- one day more, in front of two of them, where so many records go
abbrev pub row_with : HeldDay → ℕ → List (Option HeldDay) → List HeldDay
row_with day gone os = flat_map option_to_list (map (option_map (lowered gone)) (Some day ∷ take 2 os))

none_lowered : (os : List (Option HeldDay)) (gone : ℕ) → gone ≡ 0 → flat_map option_to_list (map (option_map (lowered gone)) os) ≡ flat_map option_to_list os
none_lowered [] gone e = refl
none_lowered (None ∷ os) gone e = none_lowered os gone e
none_lowered (Some h ∷ os) gone e =
    let same : h.first - gone ≡ h.first = omega arith in
    λ i. record { opened = h.opened; first = same i; taken = h.taken } ∷ none_lowered os gone e i

module _ (o : Opened) (count gone : ℕ) where
  three_opened :
      (a b c : Option HeldDay) → packed (a ∷ b ∷ c ∷ []) ≡ true → gone ≡ falls_out (flat_map option_to_list (a ∷ b ∷ c ∷ []))
      → row_with (new_day o count) gone (a ∷ b ∷ c ∷ []) ≡ with_opened o count (flat_map option_to_list (a ∷ b ∷ c ∷ []))
  three_opened None None None p e = none_lowered (Some (new_day o count) ∷ []) gone e
  three_opened (Some a) None None p e = none_lowered (Some (new_day o count) ∷ Some a ∷ []) gone e
  three_opened (Some a) (Some b) None p e = none_lowered (Some (new_day o count) ∷ Some a ∷ Some b ∷ []) gone e
  three_opened (Some a) (Some b) (Some c) p e = ap (λ g. lowered g (new_day o count) ∷ lowered g a ∷ lowered g b ∷ []) e
  three_opened None None (Some c) p e = absurd (both_ways false refl p)
  three_opened None (Some b) c p e = absurd (both_ways false refl p)
  three_opened (Some a) None (Some c) p e = absurd (both_ways false refl p)

  pub row_opened :
      (os : List (Option HeldDay)) → packed os ≡ true → gone ≡ falls_out (flat_map option_to_list os)
      → row_with (new_day o count) gone os ≡ with_opened o count (flat_map option_to_list os)
  row_opened [] p e = absurd (both_ways false refl p)
  row_opened (a ∷ []) p e = absurd (both_ways false refl p)
  row_opened (a ∷ b ∷ []) p e = absurd (both_ways false refl p)
  row_opened (a ∷ b ∷ c ∷ []) p e = three_opened a b c p e
  row_opened (a ∷ b ∷ c ∷ d ∷ os) p e =
      let os' = a ∷ b ∷ c ∷ d ∷ os in
      let three : length os' ≡ 3 = eqb-true (length os') 3 (and_parts (eqb (length os') 3) (in_front os') p).0 in
      absurd (omega arith)

pub days_opened : (o : Opened) (count : ℕ) (hs : List HeldDay) → map (λ h. h.opened) (with_opened o count hs) ≡ take 3 (o ∷ map (λ h. h.opened) hs)
days_opened o count [] = refl
days_opened o count (a ∷ []) = refl
days_opened o count (a ∷ b ∷ []) = refl
days_opened o count (a ∷ b ∷ c ∷ hs) = refl
