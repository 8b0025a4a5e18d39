-- The sheets after a trade was withdrawn are those before it was taken.
use Rattle.std.proofs.Common.{◌≡◌, ℕ, ◌+◌, Bool, true, false, cond, not, ◌&&◌, List, [], ◌∷◌, ◌++◌, map, filter, sym, refl, ap, ◌∙◌, subst, append_assoc, arith}
use Rattle.std.specs.List.{AllByRecursion as All}
use Rattle.std.proofs.ByRecursion.{All-map, All-weaker, all_kept_by}
use Rattle.std.proofs.lemmas.Bool.{both_ways}
use Rattle.std.proofs.lemmas.Bool.Decides.{nat_tests}
use Rattle.report.specs.declared.figures.Sheet.{Sheet}
use Rattle.report.specs.declared.figures.Sheet.TheVariants.{Full, Public}
use Rattle.report.specs.declared.report.Code.{Code}
use Rattle.report.specs.declared.state.Event.TheVariants.{Due}
use Rattle.report.specs.declared.state.State.{State}
use Rattle.report.specs.States.{survives}
use Rattle.rulebook.specs.declared.call.Call.{Call}
use Rattle.rulebook.specs.declared.record.Record.{Record}
use Rattle.rulebook.specs.Notebook.{Rules, Notebook, same_code, latest_day, is_published}
use Rattle.rulebook.specs.Lines.{due_now}
use Rattle.rulebook.specs.Taken.{changed, met, withdrawn, published_from, noted}
use Rattle.rulebook.specs.Sheets.{counts, figures_of, sheet_of}
use Rattle.rulebook.specs.Desk.{Desk, new_desk, taken}
use Rattle.rulebook.specs.Former.{brings_to, Untouched, FormerSheets}
use Rattle.rulebook.specs.Grounds.{ground}
use Rattle.rulebook.specs.Histories.{History, taking, step, fed, Rightly, notebook_after}
use Rattle.rulebook.proofs.Lasting.{Steady, public_steady}
use Rattle.rulebook.proofs.Sound.{sound_fed}
use Rattle.rulebook.proofs.Plain.{plain, same_figures}
use Rattle.rulebook.proofs.Restored.{midway, Course, code_new, full_restored, public_restored}
use Rattle.rulebook.proofs.Sieves.{all_of, kept_same}
use Rattle.rulebook.proofs.Always.{none_from, fed_append}
use Rattle.rulebook.proofs.Throughout.{blank_well}
use Rattle.rulebook.proofs.Views.{on_list, beside, view, others, counted_is, on_published, survives_due}
use Rattle.rulebook.proofs.Withdrawals.{gone_on, withdrawn_gone}

-- a sheet goes by what of its trades is seen
same_sheet : (t : Record) (sheet : Sheet) (a b : Notebook)
    → map (plain t) (filter (λ u. counts sheet u.state) (on_list t a.records)) ≡ map (plain t) (filter (λ u. counts sheet u.state) (on_list t b.records))
    → sheet_of a t.report.isin t.code.day sheet ≡ sheet_of b t.report.isin t.code.day sheet
same_sheet t sheet a b e =
    ap figures_of (counted_is t a sheet)
    ∙ same_figures t (filter (λ u. counts sheet u.state) (on_list t a.records)) (filter (λ u. counts sheet u.state) (on_list t b.records)) e
    ∙ sym (ap figures_of (counted_is t b sheet))

-- the trade of a code is withdrawn
Gone : Code → Record → Type 0
Gone code u = same_code u.code code ≡ true → survives u.state ≡ false

gone_changed : (code : Code) (us : List Record) → All (Gone code) (changed code withdrawn us)
unfolding Gone
gone_changed code us =
    All-map (Gone code) (λ u. cond (same_code u.code code) (withdrawn u) u) us (all_of _ (λ u. by_cases u (same_code u.code code) refl) us)
  where
    by_cases : (u : Record) (b : Bool) → same_code u.code code ≡ b → same_code (cond b (withdrawn u) u).code code ≡ true → survives (cond b (withdrawn u) u).state ≡ false
    by_cases u true e f = withdrawn_gone u.state
    by_cases u false e f = absurd (both_ways (same_code u.code code) e f)

gone_published : (code : Code) (day number : ℕ) (ds us : List Record) → All (Gone code) us → All (Gone code) (published_from day number ds us)
unfolding Gone
gone_published code day number [] us h = h
gone_published code day number (d ∷ ds) us h =
    gone_published code day (number + 1) ds (changed d.code (met Due (record { day = day; number = number })) us)
    (All-map (Gone code) (λ u. cond (same_code u.code d.code) (met Due (record { day = day; number = number }) u) u) us
    (All-weaker (Gone code) (λ u. Gone code (cond (same_code u.code d.code) (met Due (record { day = day; number = number }) u) u))
    (λ u g. by_cases u (same_code u.code d.code) g) us h))
  where
    by_cases : (u : Record) (b : Bool) → Gone code u → same_code (cond b (met Due (record { day = day; number = number }) u) u).code code ≡ true
        → survives (cond b (met Due (record { day = day; number = number }) u) u).state ≡ false
    by_cases u true g e = survives_due true (record { day = day; number = number }) u ∙ g e
    by_cases u false g e = g e

-- then the others that are published are all that are
only_others : (code : Code) (us : List Record) → All (Gone code) us → filter (λ u. is_published u.state) us ≡ filter (others code) us
unfolding Gone
only_others code us h =
    kept_same (λ u. is_published u.state) (others code) us
    (All-weaker (Gone code) (λ u. is_published u.state ≡ others code u) (λ u g. by_cases u.state (same_code u.code code) g) us h)
  where
    by_cases : (x : State) (b : Bool) → (b ≡ true → survives x ≡ false) → is_published x ≡ (is_published x && not b)
    by_cases x b g = grind (arith, nat_tests, g)

module _ (rules : Rules) (d : Desk) (h : History) (c w : Call) (t : Record) (course : Course rules d h c w t) where
  public_before : map (plain t) (filter (λ u. is_published u.state) (on_list t d.notebook.records)) ≡ view t (others t.code) d.notebook.records
  unfolding Gone
  public_before =
      ap (map (plain t)) (only_others t.code (on_list t d.notebook.records)
      (all_kept_by (beside t) (Gone t.code) d.notebook.records
      (All-weaker (λ u. same_code u.code t.code ≡ false) (Gone t.code) (λ u e f. absurd (both_ways (same_code u.code t.code) e f))
      d.notebook.records (code_new rules d h c w t course))))

  public_after : map (plain t) (filter (λ u. is_published u.state) (on_list t (taken rules (midway rules d c h) w).notebook.records))
      ≡ view t (others t.code) (taken rules (midway rules d c h) w).notebook.records
  public_after =
      let m = (midway rules d c h).notebook in
      let nb = noted rules m w in
      let same : on_list t (taken rules (midway rules d c h) w).notebook.records
      ≡ published_from (latest_day nb.days) (nb.written + 1) (due_now nb) (changed t.code withdrawn (on_list t m.records)) =
      on_published t (latest_day nb.days) (nb.written + 1) (due_now nb) nb.records
      ∙ ap (published_from (latest_day nb.days) (nb.written + 1) (due_now nb)) (gone_on t rules m w course.gone course.elsewhere) in
      ap (map (plain t)) (only_others t.code (on_list t (taken rules (midway rules d c h) w).notebook.records)
      (subst (All (Gone t.code)) (sym same)
      (gone_published t.code (latest_day nb.days) (nb.written + 1) (due_now nb) (changed t.code withdrawn (on_list t m.records))
      (gone_changed t.code (on_list t m.records)))))

-- a history in two parts
rightly_append : (rules : Rules) (d : Desk) (g h : History) → Rightly rules d (g ++ h) → Rightly rules d g × Rightly rules (fed rules d g) h
rightly_append rules d [] h r = (tt, r)
rightly_append rules d (e ∷ es) h (r, rs) = let both = rightly_append rules (step rules d e) es h rs in ((r, both.0), both.1)

steady_append : (t : Record) (s : Record → Bool) (rules : Rules) (d : Desk) (g h : History) → Steady t s rules d (g ++ h) → Steady t s rules d g × Steady t s rules (fed rules d g) h
steady_append t s rules d [] h q = (tt, q)
steady_append t s rules d (e ∷ es) h (q, qs) = let both = steady_append t s rules (step rules d e) es h qs in ((q, both.0), both.1)

pub former_sheets : FormerSheets
former_sheets rules kept g h c w t whole =
    let d : Desk = fed rules new_desk g in
    let parts = rightly_append rules new_desk g (taking c ∷ (h ++ taking w ∷ []))
    (subst (Rightly rules new_desk) (append_assoc g (taking c ∷ h) (taking w ∷ [])) whole.lawful) in
    let ends = rightly_append rules (taken rules d c) h (taking w ∷ []) parts.1.1 in
    let at-midway : fed rules new_desk (g ++ taking c ∷ h) ≡ midway rules d c h = fed_append rules new_desk g (taking c ∷ h) in
    let at-end : notebook_after rules (g ++ taking c ∷ h ++ taking w ∷ []) ≡ (taken rules (midway rules d c h) w).notebook =
    ap (λ (x : Desk). x.notebook) (fed_append rules new_desk (g ++ taking c ∷ h) (taking w ∷ [])) ∙ ap (λ (x : Desk). (taken rules x w).notebook) at-midway in
    let sound = sound_fed rules new_desk g parts.0 ([], blank_well) in
    let course : Course rules d h c w t =
    record {
      sound = sound;
      takes = none_from (ground rules d c) (sym parts.1.0);
      right = ends.0;
      ends = none_from (ground rules (midway rules d c h) w) (sym ends.1.0);
      new = whole.new;
      alone = whole.alone;
      between = subst (λ (x : Desk). Untouched rules t.report.isin t.code.day x h) (fed_append rules new_desk g (taking c ∷ [])) whole.between;
      gone = whole.gone;
      elsewhere = subst (λ (x : Desk). brings_to rules x.notebook t.report.isin t.code.day w ≡ false) at-midway whole.elsewhere;
    } in
    record {
      full =
          ap (λ (x : Notebook). sheet_of x t.report.isin t.code.day Full) at-end
          ∙ same_sheet t Full (taken rules (midway rules d c h) w).notebook d.notebook (full_restored rules d h c w t course);
      public = λ silent.
          let steady = public_steady t rules d (taking c ∷ (h ++ taking w ∷ [])) parts.1 sound silent in
          let later = steady_append t (others t.code) rules (taken rules d c) h (taking w ∷ []) steady.1 in
          ap (λ (x : Notebook). sheet_of x t.report.isin t.code.day Public) at-end
          ∙ same_sheet t Public (taken rules (midway rules d c h) w).notebook d.notebook
          (public_after rules d h c w t course
          ∙ public_restored rules d h c w t course (steady.0 refl) later.0 (later.1.0 refl) ∙ sym (public_before rules d h c w t course));
    }
