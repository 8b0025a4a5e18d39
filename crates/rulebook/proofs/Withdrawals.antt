-- What the call that takes a trade and the call that withdraws it do to the trades beside it.
use Rattle.std.proofs.Common.{◌≡◌, Bool, false, cond, not, ◌&&◌, eqb, List, [], ◌∷◌, ◌++◌, map, Some, None, filter, Option, sym, refl, ap, ◌∙◌, rules, arith}
use Rattle.std.proofs.lemmas.List.Elements.{filter-append}
use Rattle.std.proofs.ByRecursion.{All-weaker}
use Rattle.std.proofs.lemmas.List.{map-append}
use Rattle.std.proofs.lemmas.Bool.{and_left, both_ways, ne_eqb, not-false}
use Rattle.std.proofs.lemmas.Bool.Decides.{nat_tests}
use Rattle.report.specs.declared.report.Code.{Code}
use Rattle.report.specs.declared.state.Event.TheVariants.{Withdrawn as Withdrawing}
use Rattle.report.specs.declared.state.State.{State}
use Rattle.report.specs.States.{after, survives}
use Rattle.rulebook.specs.declared.call.Call.{Call}
use Rattle.rulebook.specs.declared.call.Call.TheVariants.{List as Listing, Advance, Open, Enter, Amend, Cancel, CarryAway, Figures}
use Rattle.rulebook.specs.declared.record.Record.{Record}
use Rattle.rulebook.specs.Lists.{passes}
use Rattle.rulebook.specs.Notebook.{Rules, Notebook, same_code, record_of}
use Rattle.rulebook.specs.Taken.{changed, withdrawn, without, with_new, amended, new_record, noted}
use Rattle.rulebook.specs.Desk.{Desk}
use Rattle.rulebook.specs.Former.{withdraws, brings_to, takes_from}
use Rattle.rulebook.specs.Grounds.{ground, is_of, amend_grounds, cancel_grounds}
use Rattle.rulebook.proofs.Codes.{codes_of, changed_codes, all_coded}
use Rattle.rulebook.proofs.Lasting.{on_new, on_without}
use Rattle.rulebook.proofs.Lost.{Lost}
use Rattle.rulebook.proofs.Sound.{Sound}
use Rattle.rulebook.proofs.Grounds.{none_there}
use Rattle.rulebook.proofs.Plain.{plain}
use Rattle.rulebook.proofs.Sieves.{all_of, kept_same, kept_both, kept_map, passes_none}
use Rattle.rulebook.proofs.Views.{beside, on_list, surviving, on_changed, view_of_changed}

-- the call that takes the trade adds it, and leaves the others beside it
pub taken_on : (t : Record) (rules : Rules) (nb : Notebook) (c : Call) → Sound nb → new_record rules nb c ≡ Some t
    → takes_from nb t.report.isin t.code.day c ≡ false → on_list t (noted rules nb c).records ≡ on_list t nb.records ++ on_list t (t ∷ [])
taken_on t rules nb (Listing s) w e f = absurd cc
taken_on t rules nb (Advance moment) w e f = absurd cc
taken_on t rules nb Open w e f = absurd cc
taken_on t rules nb (Enter r) w e f =
    ap (λ (o : Option Record). on_list t (with_new o nb).records) e ∙ filter-append (beside t) nb.records (t ∷ [])
taken_on t rules nb (Amend code r) w e f =
    ap (λ (o : Option Record). on_list t (with_new o (without code nb)).records) e
    ∙ filter-append (beside t) (without code nb).records (t ∷ []) ∙ ap (λ (us : List Record). us ++ on_list t (t ∷ [])) (on_without t code nb w f)
taken_on t rules nb (Cancel member code) w e f = absurd cc
taken_on t rules nb (CarryAway room) w e f = absurd cc
taken_on t rules nb (Figures isin day sheet) w e f = absurd cc

pub taken_codes : (t : Record) (rules : Rules) (nb : Notebook) (c : Call) → new_record rules nb c ≡ Some t
    → codes_of (noted rules nb c).records ≡ codes_of nb.records ++ t.code ∷ []
taken_codes t rules nb (Listing s) e = absurd cc
taken_codes t rules nb (Advance moment) e = absurd cc
taken_codes t rules nb Open e = absurd cc
taken_codes t rules nb (Enter r) e =
    ap (λ (o : Option Record). codes_of (with_new o nb).records) e ∙ map-append (λ u. u.code) nb.records (t ∷ [])
taken_codes t rules nb (Amend code r) e =
    ap (λ (o : Option Record). codes_of (with_new o (without code nb)).records) e
    ∙ map-append (λ u. u.code) (without code nb).records (t ∷ [])
    ∙ ap (λ (cs : List Code). cs ++ t.code ∷ []) (changed_codes code withdrawn (λ u. refl) nb.records)
taken_codes t rules nb (Cancel member code) e = absurd cc
taken_codes t rules nb (CarryAway room) e = absurd cc
taken_codes t rules nb (Figures isin day sheet) e = absurd cc

-- the call that withdraws it changes it alone
pub gone_on : (t : Record) (rules : Rules) (nb : Notebook) (w : Call) → withdraws w ≡ Some t.code → brings_to rules nb t.report.isin t.code.day w ≡ false
    → on_list t (noted rules nb w).records ≡ changed t.code withdrawn (on_list t nb.records)
gone_on t rules nb (Listing s) e f = absurd cc
gone_on t rules nb (Advance moment) e f = absurd cc
gone_on t rules nb Open e f = absurd cc
gone_on t rules nb (Enter r) e f = absurd cc
gone_on t rules nb (Amend code r) e f =
    let same : code ≡ t.code = cc in
    on_new t (amended rules nb code r) (without code nb) f ∙ on_changed t code withdrawn (λ u. refl) nb.records
    ∙ ap (λ (c : Code). changed c withdrawn (on_list t nb.records)) same
gone_on t rules nb (Cancel member code) e f =
    let same : code ≡ t.code = cc in
    on_changed t code withdrawn (λ u. refl) nb.records ∙ ap (λ (c : Code). changed c withdrawn (on_list t nb.records)) same
gone_on t rules nb (CarryAway room) e f = absurd cc
gone_on t rules nb (Figures isin day sheet) e f = absurd cc

-- a trade whose day fell out cannot be withdrawn
no_trade : (t : Record) (nb : Notebook) (p : Record → Bool) (code : Code) → code ≡ t.code → Lost t nb.days (codes_of nb.records) → not (passes p (record_of nb code)) ≡ false → ⊥
no_trade t nb p code same lost e =
    both_ways (passes p (record_of nb code))
    (passes_none p (λ u. same_code u.code code) nb.records
    (All-weaker (λ u. u.code.day ≡ t.code.day → ⊥) (λ u. same_code u.code code ≡ false)
    (λ u h. and_left (eqb u.code.day code.day) (eqb u.code.serial code.serial)
    (ne_eqb u.code.day code.day (λ f. h (f ∙ ap (λ (c : Code). c.day) same))))
    nb.records (all_coded (λ c. c.day ≡ t.code.day → ⊥) nb.records lost.none)))
    (not-false (passes p (record_of nb code)) e)

pub not_lost : (t : Record) (rules : Rules) (d : Desk) (w : Call) → withdraws w ≡ Some t.code → ground rules d w ≡ None
    → Lost t d.notebook.days (codes_of d.notebook.records) → ⊥
not_lost t rules d (Listing s) e g lost = cc
not_lost t rules d (Advance moment) e g lost = cc
not_lost t rules d Open e g lost = cc
not_lost t rules d (Enter r) e g lost = cc
not_lost t rules d (Amend code r) e g lost =
    no_trade t d.notebook (is_of r.member) code (cc) lost (none_there (amend_grounds rules d code r) g).1.0
not_lost t rules d (Cancel member code) e g lost =
    no_trade t d.notebook (is_of member) code (cc) lost (none_there (cancel_grounds rules d member code) g).1.0
not_lost t rules d (CarryAway room) e g lost = cc
not_lost t rules d (Figures isin day sheet) e g lost = cc

-- a trade that is withdrawn does not survive, whatever its state
pub withdrawn_gone : (x : State) → survives (after x Withdrawing) ≡ false
withdrawn_gone x = search rules

pub survivors_but : (t : Record) (us : List Record)
    → map (plain t) (filter surviving (changed t.code withdrawn us)) ≡ filter (λ u. not (same_code u.code t.code)) (map (plain t) (filter surviving us))
survivors_but t us =
    let but : Record → Bool = λ u. not (same_code u.code t.code) in
    view_of_changed t surviving t.code withdrawn (λ u. refl) us
    ∙ ap (map (plain t)) (kept_same (λ u. surviving (cond (same_code u.code t.code) (withdrawn u) u)) (λ u. surviving u && but u) us
    (all_of _ (λ u. by_cases u (same_code u.code t.code) (surviving u) refl) us)
    ∙ kept_both surviving but us)
    ∙ sym (kept_map but (plain t) (filter surviving us))
  where
    by_cases : (u : Record) (b s : Bool) → surviving u ≡ s → surviving (cond b (withdrawn u) u) ≡ (surviving u && not b)
    by_cases u b s e = grind (arith, nat_tests, withdrawn_gone u.state)
