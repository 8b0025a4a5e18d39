-- The trades of a security and a day, and those of them that pass a test, seen by code and report alone.
use Rattle.std.proofs.Common.{◌≡◌, ℕ, ◌+◌, Bool, true, false, cond, not, ◌&&◌, ◌⊎◌, List, [], ◌∷◌, map, Some, filter, Option, sym, refl, ap, ◌∙◌, subst, inl, inr, rules, arith}
use Rattle.std.specs.List.{find, ContainsAt as Has, AllByRecursion as All}
use Rattle.std.proofs.ByRecursion.{all_has_itself, all_kept_by, kept_by_passes}
use Rattle.std.proofs.lemmas.Bool.{both_ways, and_right, not_from_true}
use Rattle.report.specs.declared.figures.Sheet.{Sheet}
use Rattle.report.specs.declared.line.Place.{Place}
use Rattle.report.specs.declared.report.Code.{Code}
use Rattle.report.specs.declared.state.Event.TheVariants.{Due}
use Rattle.report.specs.States.{survives}
use Rattle.rulebook.specs.declared.record.Record.{Record}
use Rattle.rulebook.specs.Lists.{passes}
use Rattle.rulebook.specs.Notebook.{Notebook, same_code, same_isin, of_day, is_published}
use Rattle.rulebook.specs.Former.{is_on}
use Rattle.rulebook.specs.Sheets.{counts, counted, on_sheet}
use Rattle.rulebook.specs.Taken.{changed, met, published_from}
use Rattle.rulebook.proofs.Apart.{Apart, one_of, same_code_is}
use Rattle.rulebook.proofs.Codes.{codes_of, changed_codes}
use Rattle.rulebook.proofs.Plain.{plain}
use Rattle.rulebook.proofs.Sieves.{all_of, all_two, kept_same, kept_both, kept_map, first_cases}

-- a trade of the security and day of another
abbrev pub beside : Record → Record → Bool
beside t u = is_on t.report.isin t.code.day u

abbrev pub on_list : Record → List Record → List Record
on_list t ts = filter (beside t) ts

abbrev pub view : Record → (Record → Bool) → List Record → List Record
view t s ts = map (plain t) (filter s (on_list t ts))

-- the two tests: what survives, and what is published other than the trade of a code
abbrev pub surviving : Record → Bool
surviving u = survives u.state

abbrev pub others : Code → Record → Bool
others code u = is_published u.state && not (same_code u.code code)

pub counted_is : (t : Record) (nb : Notebook) (sheet : Sheet)
    → counted nb t.report.isin t.code.day sheet ≡ filter (λ u. counts sheet u.state) (on_list t nb.records)
counted_is t nb sheet =
    kept_same (on_sheet t.report.isin t.code.day sheet) (λ u. beside t u && counts sheet u.state) nb.records
    (all_of _ (λ u. regroup (same_isin u.report.isin t.report.isin) (of_day t.code.day u) (counts sheet u.state)) nb.records)
    ∙ kept_both (beside t) (λ u. counts sheet u.state) nb.records
  where
    regroup : (a b c : Bool) → (a && (b && c)) ≡ ((a && b) && c)
    regroup a b c = search rules

-- what keeps code and report
abbrev pub Plainly : Record → (Record → Record) → Type 0
Plainly t f = (u : Record) → plain t (f u) ≡ plain t u

one_changed : (t : Record) (f : Record → Record) → Plainly t f → (b : Bool) (u : Record) → plain t (cond b (f u) u) ≡ plain t u
one_changed t f same true u = same u
one_changed t f same false u = refl

pub on_changed : (t : Record) (code : Code) (f : Record → Record) → Plainly t f → (ts : List Record)
    → on_list t (changed code f ts) ≡ changed code f (on_list t ts)
on_changed t code f same ts =
    let g : Record → Record = λ u. cond (same_code u.code code) (f u) u in
    kept_map (beside t) g ts
    ∙ ap (map g) (kept_same (λ u. beside t (g u)) (beside t) ts
    (all_of _ (λ u. ap (beside t) (one_changed t f same (same_code u.code code) u)) ts))

pub on_published : (t : Record) (day number : ℕ) (ds ts : List Record) → on_list t (published_from day number ds ts) ≡ published_from day number ds (on_list t ts)
on_published t day number [] ts = refl
on_published t day number (d ∷ ds) ts =
    let f : Record → Record = met Due (record { day = day; number = number }) in
    on_published t day (number + 1) ds (changed d.code f ts) ∙ ap (published_from day (number + 1) ds) (on_changed t d.code f (λ u. refl) ts)

-- a code that none of them has
pub changed_none : (code : Code) (f : Record → Record) (ts : List Record) → All (λ u. same_code u.code code ≡ false) ts → changed code f ts ≡ ts
changed_none code f [] h = refl
changed_none code f (t ∷ ts) (e, h) = simp (e, changed_none code f ts h)

plain_changed : (t : Record) (code : Code) (f : Record → Record) → Plainly t f → (ts : List Record) → map (plain t) (changed code f ts) ≡ map (plain t) ts
plain_changed t code f same [] = refl
plain_changed t code f same (u ∷ us) = grind (arith, one_changed t f same (same_code u.code code) u, plain_changed t code f same us)

-- what passes of the changed ones
pub view_of_changed : (t : Record) (s : Record → Bool) (code : Code) (f : Record → Record) → Plainly t f → (us : List Record)
    → map (plain t) (filter s (changed code f us)) ≡ map (plain t) (filter (λ u. s (cond (same_code u.code code) (f u) u)) us)
view_of_changed t s code f same us =
    ap (map (plain t)) (kept_map s (λ u. cond (same_code u.code code) (f u) u) us)
    ∙ plain_changed t code f same (filter (λ u. s (cond (same_code u.code code) (f u) u)) us)

pub view_changed : (t : Record) (s : Record → Bool) (code : Code) (f : Record → Record) → Plainly t f → (ts : List Record)
    → All (λ u. s (cond (same_code u.code code) (f u) u) ≡ s u) (on_list t ts) → view t s (changed code f ts) ≡ view t s ts
view_changed t s code f same ts h =
    ap (λ (us : List Record). map (plain t) (filter s us)) (on_changed t code f same ts)
    ∙ view_of_changed t s code f same (on_list t ts)
    ∙ ap (map (plain t)) (kept_same (λ u. s (cond (same_code u.code code) (f u) u)) s (on_list t ts) h)

-- a trade that falls due survives as it did
pub survives_due : (b : Bool) (place : Place) (u : Record) → surviving (cond b (met Due place u) u) ≡ surviving u
survives_due b place u = search rules

pub full_settled : (t : Record) (day number : ℕ) (ds ts : List Record) → view t surviving (published_from day number ds ts) ≡ view t surviving ts
full_settled t day number [] ts = refl
full_settled t day number (d ∷ ds) ts =
    let place : Place = record { day = day; number = number } in
    full_settled t day (number + 1) ds (changed d.code (met Due place) ts)
    ∙ view_changed t surviving d.code (met Due place) (λ u. refl) ts (all_of _ (λ u. survives_due (same_code u.code d.code) place u) (on_list t ts))

-- the trade of the code itself does not count among the others
pub others_changed : (code c : Code) (f : Record → Record) → ((u : Record) → (f u).code ≡ u.code) → c ≡ code → (u : Record)
    → others code (cond (same_code u.code c) (f u) u) ≡ others code u
others_changed code c f same e u = by_cases (same_code u.code c) refl
  where
    none : (v : Record) → same_code v.code code ≡ true → others code v ≡ false
    none v h = and_right (is_published v.state) (not (same_code v.code code)) (not_from_true (same_code v.code code) h)

    by_cases : (b : Bool) → same_code u.code c ≡ b → others code (cond b (f u) u) ≡ others code u
    by_cases true h =
        let it : same_code u.code code ≡ true = subst (λ (x : Code). same_code u.code x ≡ true) e h in
        none (f u) (subst (λ (x : Code). same_code x code ≡ true) (sym (same u)) it) ∙ sym (none u it)
    by_cases false h = refl

-- a trade that falls due is beside none of them, or is that of the code
abbrev pub Aside : Record → List Code → Record → Type 0
Aside t codes d = All (λ c. same_code c d.code ≡ false) codes ⊎ (d.code ≡ t.code)

others_kept : (t d : Record) (f : Record → Record) → ((u : Record) → (f u).code ≡ u.code) → (us : List Record) → Aside t (codes_of us) d
    → All (λ u. others t.code (cond (same_code u.code d.code) (f u) u) ≡ others t.code u) us
others_kept t d f same us (inr e) = all_of _ (others_changed t.code d.code f same e) us
others_kept t d f same [] (inl h) = tt
others_kept t d f same (u ∷ us) (inl (e, h)) =
    (ap (λ (b : Bool). others t.code (cond b (f u) u)) e, others_kept t d f same us (inl h))

pub public_settled : (t : Record) (day number : ℕ) (ds ts : List Record) → All (Aside t (codes_of (on_list t ts))) ds
    → view t (others t.code) (published_from day number ds ts) ≡ view t (others t.code) ts
public_settled t day number [] ts h = refl
public_settled t day number (d ∷ ds) ts (p, h) =
    let f : Record → Record = met Due (record { day = day; number = number }) in
    let same : codes_of (on_list t (changed d.code f ts)) ≡ codes_of (on_list t ts) =
    ap codes_of (on_changed t d.code f (λ u. refl) ts) ∙ changed_codes d.code f (λ u. refl) (on_list t ts) in
    public_settled t day (number + 1) ds (changed d.code f ts) (subst (λ (cs : List Code). All (Aside t cs) ds) (sym same) h)
    ∙ view_changed t (others t.code) d.code f (λ u. refl) ts (others_kept t d f (λ u. refl) (on_list t ts) p)

pub false_unless : (b : Bool) → (b ≡ true → ⊥) → b ≡ false
false_unless true h = absurd (h refl)
false_unless false h = refl

-- a trade that is not beside them shares its code with none of them
pub elsewhere : (t : Record) (ts : List Record) → Apart (codes_of ts) → (u : Record) → Has ts u → beside t u ≡ false
    → All (λ v. same_code v.code u.code ≡ false) (on_list t ts)
elsewhere t ts apart u has off =
    all_two (Has ts) (λ v. beside t v ≡ true) (λ v. same_code v.code u.code ≡ false)
    (λ v there on. false_unless (same_code v.code u.code) (λ e.
    let same : v ≡ u = one_of ts apart v u there has (same_code_is v.code u.code e) in
    both_ways (beside t u) off (ap (beside t) (sym same) ∙ on)))
    (on_list t ts) (all_kept_by (beside t) (Has ts) ts (all_has_itself ts)) (kept_by_passes (beside t) ts)

-- nor does a code whose trade, where there is one, is not beside them
pub untouched : (t : Record) (ts : List Record) → Apart (codes_of ts) → (code : Code) → passes (beside t) (find (λ u. same_code u.code code) ts) ≡ false
    → All (λ v. same_code v.code code ≡ false) (on_list t ts)
untouched t ts apart code h = by_cases (first_cases (λ u. same_code u.code code) ts)
  where
    by_cases : All (λ u. same_code u.code code ≡ false) ts
        ⊎ ((u : Record) × (find (λ v. same_code v.code code) ts ≡ Some u) × Has ts u × (same_code u.code code ≡ true))
        → All (λ v. same_code v.code code ≡ false) (on_list t ts)
    by_cases (inl none) = all_kept_by (beside t) (λ v. same_code v.code code ≡ false) ts none
    by_cases (inr (u, f, has, e)) =
        subst (λ (c : Code). All (λ v. same_code v.code c ≡ false) (on_list t ts)) (same_code_is u.code code e)
        (elsewhere t ts apart u has (subst (λ (o : Option Record). passes (beside t) o ≡ false) f h))
