-- A withdrawn trade leaves its sheets as they were before it.
use Rattle.std.proofs.Common.{◌≡◌, Bool, true, false, cond, not, List, [], ◌∷◌, ◌++◌, map, is_some, Some, None, filter, sym, refl, ap, ◌∙◌, subst, inl, inr, append-nil, arith}
use Rattle.std.specs.List.{AllByRecursion as All}
use Rattle.std.proofs.lemmas.List.Elements.{filter-append}
use Rattle.std.proofs.ByRecursion.{All-map, All-weaker, all_kept_by, all-has, has_push}
use Rattle.std.proofs.lemmas.List.{map-append}
use Rattle.std.proofs.lemmas.Bool.{and_right, not_from_true, not_from_false}
use Rattle.report.specs.declared.report.Code.{Code}
use Rattle.rulebook.specs.declared.call.Call.{Call}
use Rattle.rulebook.specs.declared.record.Record.{Record}
use Rattle.rulebook.specs.Notebook.{Rules, same_code, is_published}
use Rattle.rulebook.specs.Taken.{withdrawn, new_record, noted}
use Rattle.rulebook.specs.Desk.{Desk, taken}
use Rattle.rulebook.specs.Former.{withdraws, brings_to, takes_from, Untouched}
use Rattle.rulebook.specs.Grounds.{ground}
use Rattle.rulebook.specs.Histories.{History, fed, Rightly}
use Rattle.rulebook.proofs.Apart.{Apart, Under, same_code_is, apart_last}
use Rattle.rulebook.proofs.Codes.{codes_of, all_coded}
use Rattle.rulebook.proofs.Lasting.{Quiet, Steady, Holding, holding_settled, holding_fed, full_quiet, full_steady}
use Rattle.rulebook.proofs.Sound.{Sound, sound_apart, sound_noted, sound_step}
use Rattle.rulebook.proofs.Plain.{plain}
use Rattle.rulebook.proofs.Reaching.{Reached}
use Rattle.rulebook.proofs.Sieves.{all_of, kept_same, kept_all, kept_none}
use Rattle.rulebook.proofs.Views.{on_list, beside, view, surviving, others, view_of_changed, others_changed, false_unless}
use Rattle.rulebook.proofs.Withdrawals.{taken_on, taken_codes, gone_on, not_lost, survivors_but}
use Rattle.rulebook.proofs.Settled.{same_code_refl}

-- the desk at which the trade is withdrawn
abbrev pub midway : Rules → Desk → Call → History → Desk
midway rules d c h = fed rules (taken rules d c) h

-- from a desk on, a trade is taken, and withdrawn after a history that leaves the others beside it
pub record Course (rules : Rules) (d : Desk) (h : History) (c w : Call) (t : Record) : Type 0 where
  pub sound : Sound d.notebook
  pub takes : ground rules d c ≡ None
  pub right : Rightly rules (taken rules d c) h
  pub ends : ground rules (midway rules d c h) w ≡ None
  pub new : new_record rules d.notebook c ≡ Some t
  pub alone : takes_from d.notebook t.report.isin t.code.day c ≡ false
  pub between : Untouched rules t.report.isin t.code.day (taken rules d c) h
  pub gone : withdraws w ≡ Some t.code
  pub elsewhere : brings_to rules (midway rules d c h).notebook t.report.isin t.code.day w ≡ false

module _ (rules : Rules) (d : Desk) (h : History) (c w : Call) (t : Record) (course : Course rules d h c w t) where
  -- where what falls due is quiet, the trade is all that comes
  pub midway_view : (s : Record → Bool) → Quiet t s (noted rules d.notebook c) → Steady t s rules (taken rules d c) h
      → view t s (midway rules d c h).notebook.records ≡ view t s d.notebook.records ++ view t s (t ∷ [])
  midway_view s quiet steady =
      by_cases (holding_fed t s (view t s d.notebook.records ++ view t s (t ∷ [])) rules (taken rules d c) h course.right sound_then course.between steady at_first)
    where
      sound_then : Sound (taken rules d c).notebook
      sound_then = sound_step rules d c false (sym (ap is_some course.takes)) course.sound

      views : view t s (noted rules d.notebook c).records ≡ view t s d.notebook.records ++ view t s (t ∷ [])
      views =
          ap (λ (us : List Record). map (plain t) (filter s us)) (taken_on t rules d.notebook c course.sound course.new course.alone)
          ∙ ap (map (plain t)) (filter-append s (on_list t d.notebook.records) (on_list t (t ∷ [])))
          ∙ map-append (plain t) (filter s (on_list t d.notebook.records)) (filter s (on_list t (t ∷ [])))

      reached : Reached (noted rules d.notebook c).days t.code.day
      reached =
          all-has (λ x. Reached (noted rules d.notebook c).days x.day) (codes_of d.notebook.records ++ t.code ∷ []) t.code
          (subst (All (λ x. Reached (noted rules d.notebook c).days x.day)) (taken_codes t rules d.notebook c course.new)
          (sound_noted rules d c course.takes course.sound).1.coded.reached)
          (has_push (codes_of d.notebook.records) t.code)

      at_first : Holding t s (view t s d.notebook.records ++ view t s (t ∷ [])) (taken rules d c).notebook
      at_first =
          holding_settled t s (view t s d.notebook.records ++ view t s (t ∷ [])) (noted rules d.notebook c) quiet (inl (views, reached))

      by_cases : Holding t s (view t s d.notebook.records ++ view t s (t ∷ [])) (midway rules d c h).notebook
          → view t s (midway rules d c h).notebook.records ≡ view t s d.notebook.records ++ view t s (t ∷ [])
      by_cases (inl (v, r)) = v
      by_cases (inr lost) = absurd (not_lost t rules (midway rules d c h) w course.gone course.ends lost)

  -- its code is new
  pub code_new : All (λ u. same_code u.code t.code ≡ false) d.notebook.records
  code_new =
      let apart : Apart (codes_of d.notebook.records ++ t.code ∷ []) =
      subst Apart (taken_codes t rules d.notebook c course.new) (sound_apart (noted rules d.notebook c) (sound_noted rules d c course.takes course.sound)) in
      all_coded (λ x. same_code x t.code ≡ false) d.notebook.records
      (All-weaker (λ x. Under x t.code) (λ x. same_code x t.code ≡ false)
      (λ x under. false_unless (same_code x t.code) (λ e.
      let same : x ≡ t.code = same_code_is x t.code e in
      omega (arith, under (ap (λ (y : Code). y.day) same), ap (λ (y : Code). y.serial) same)))
      (codes_of d.notebook.records) (apart_last (codes_of d.notebook.records) t.code apart))

  pub full_restored : view t surviving (taken rules (midway rules d c h) w).notebook.records ≡ view t surviving d.notebook.records
  full_restored =
      let m = (midway rules d c h).notebook in
      let but : Record → Bool = λ u. not (same_code u.code t.code) in
      let before = view t surviving d.notebook.records in
      let own = view t surviving (t ∷ []) in
      let all_but : All (λ u. but u ≡ true) before =
      All-map (λ u. but u ≡ true) (plain t) (filter surviving (on_list t d.notebook.records))
      (all_kept_by surviving (λ u. but u ≡ true) (on_list t d.notebook.records)
      (all_kept_by (beside t) (λ u. but u ≡ true) d.notebook.records
      (All-weaker (λ u. same_code u.code t.code ≡ false) (λ u. but u ≡ true) (λ u e. not_from_false (same_code u.code t.code) e) d.notebook.records code_new))) in
      let none-but : All (λ u. but u ≡ false) own =
      All-map (λ u. but u ≡ false) (plain t) (filter surviving (on_list t (t ∷ [])))
      (all_kept_by surviving (λ u. but u ≡ false) (on_list t (t ∷ []))
      (all_kept_by (beside t) (λ u. but u ≡ false) (t ∷ []) (not_from_true (same_code t.code t.code) (same_code_refl t.code), tt))) in
      full_quiet t (noted rules m w)
      ∙ ap (λ (us : List Record). map (plain t) (filter surviving us)) (gone_on t rules m w course.gone course.elsewhere)
      ∙ survivors_but t (on_list t m.records)
      ∙ ap (filter but) (midway_view surviving (full_quiet t (noted rules d.notebook c)) (full_steady t rules (taken rules d c) h))
      ∙ filter-append but before own
      ∙ ap (λ (us : List Record). us ++ filter but own) (kept_all but before all_but)
      ∙ ap (λ (us : List Record). before ++ us) (kept_none but own none-but) ∙ append-nil before

  pub public_restored : Quiet t (others t.code) (noted rules d.notebook c) → Steady t (others t.code) rules (taken rules d c) h
      → Quiet t (others t.code) (noted rules (midway rules d c h).notebook w)
      → view t (others t.code) (taken rules (midway rules d c h) w).notebook.records ≡ view t (others t.code) d.notebook.records
  public_restored first steady last =
      let m = (midway rules d c h).notebook in
      let s : Record → Bool = others t.code in
      let none : filter s (on_list t (t ∷ [])) ≡ [] =
      kept_none s (on_list t (t ∷ [])) (all_kept_by (beside t) (λ u. s u ≡ false) (t ∷ [])
      (and_right (is_published t.state) (not (same_code t.code t.code)) (not_from_true (same_code t.code t.code) (same_code_refl t.code)), tt)) in
      last
      ∙ ap (λ (us : List Record). map (plain t) (filter s us)) (gone_on t rules m w course.gone course.elsewhere)
      ∙ view_of_changed t s t.code withdrawn (λ u. refl) (on_list t m.records)
      ∙ ap (map (plain t)) (kept_same (λ u. s (cond (same_code u.code t.code) (withdrawn u) u)) s (on_list t m.records)
      (all_of _ (others_changed t.code t.code withdrawn (λ u. refl) refl) (on_list t m.records)))
      ∙ midway_view s first steady
      ∙ ap (λ (us : List Record). view t s d.notebook.records ++ map (plain t) us) none ∙ append-nil (view t s d.notebook.records)
