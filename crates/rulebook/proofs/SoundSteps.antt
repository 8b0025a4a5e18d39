-- A new desk is sound, and every call that is taken keeps a desk sound, whichever calendar and schedule it is lent.
use Rattle.std.proofs.Common.{◌≡◌, ℕ, ◌+◌, ◌*◌, ◌<◌, ◌≤◌, Bool, true, false, cond, not, ◌&&◌, ltb, leb, List, [], ◌∷◌, ◌++◌, length, take, is_some, Some, None, Ok, Err, sum_by, filter, Option, Result, sym, refl, ap, subst, inl, inr, arith, length-take, rules}
use Rattle.std.specs.List.{find, AllByRecursion as All}
use Rattle.std.specs.Str.{bytes_eq}
use Rattle.std.proofs.ByRecursion.{All-weaker, All-take, All-push, all_kept_by, kept_by_passes}
use Rattle.std.proofs.lemmas.Slice.Eq.{bytes_eq-Decides}
use Rattle.std.proofs.lemmas.List.{length-append, length_push, length-map}
use Rattle.std.proofs.lemmas.List.Sums.{sum_by_push, length-filter, count_by-le-length}
use Rattle.std.proofs.lemmas.Bool.{and_cases, not-false, ltb-false, leb-false}
use Rattle.refusal.specs.declared.Refusal.{Refusal}
use Rattle.identifier.specs.declared.isin.Isin.{Isin}
use Rattle.calendar.specs.Meaning.{Lawful as Kept}
use Rattle.deferral.specs.declared.opened.Opened.{Opened}
use Rattle.deferral.specs.Deadlines.{day_of, opened}
use Rattle.report.specs.declared.line.Line.{Line}
use Rattle.report.specs.declared.report.Code.{Code}
use Rattle.report.specs.declared.security.Security.{Security}
use Rattle.rulebook.specs.declared.call.Call.{Call}
use Rattle.rulebook.specs.declared.call.Call.TheVariants.{List as Listing, Advance, Open, Enter, Amend, Cancel, CarryAway, Figures}
use Rattle.rulebook.specs.declared.call.Sizes.{Sizes}
use Rattle.rulebook.specs.declared.record.Record.{Record}
use Rattle.rulebook.specs.Lists.{passes}
use Rattle.rulebook.specs.Notebook.{Rules, Notebook, same_isin, same_code, security_of, among, latest, latest_day, is_due}
use Rattle.rulebook.specs.Lines.{due_now, due_lines}
use Rattle.rulebook.specs.Taken.{with_security, withdrawn, settled, at_clock, listed, day_opened, without, entered, amended, with_new, noted, lines_of}
use Rattle.rulebook.specs.Desk.{Desk, new_desk, keeps, taken}
use Rattle.rulebook.specs.Grounds.{ground, grounds, too_early}
use Rattle.rulebook.specs.Sound.{Proper, Spaced, Timed, Sound}
use Rattle.rulebook.proofs.Changes.{lasts_settled, lasts_withdrawn}
use Rattle.rulebook.proofs.Days.{noted_day}
use Rattle.rulebook.proofs.FineTrades.{Fine, FineIn, fine_met, clear_entry, clear_amendment, entry_fine, amendment_fine}
use Rattle.rulebook.proofs.Grounds.{none_there}
use Rattle.rulebook.proofs.ProperDays.{proper_opened, all_apart, spaced_front, spaced_opened_on, timed_opened}
use Rattle.rulebook.proofs.Settled.{none_due_settled}
use Rattle.rulebook.proofs.ToldSums.{told, recalled_told, settled_told, none_due_lines, length_published}
use Rattle.rulebook.proofs.Sieves.{all_two, all_three}

-- what holds of a sound desk's notebook, whether or not what is due has been published
pub record Ready (sizes : Sizes) (nb : Notebook) : Type 0 where
  pub proper : All Proper nb.days
  pub spaced : Spaced nb.days
  pub three : length nb.days ≤ 3
  pub fine : All (FineIn nb) nb.records
  pub lines_told : nb.written ≤ sum_by told nb.records
  pub records : length nb.records ≤ sizes.records
  pub securities : length nb.securities ≤ sizes.securities
  pub clock : nb.clock < 7258118400

module _ (sizes : Sizes) (d : Desk) (sound : Sound sizes d) where
  all_fine : All (FineIn d.notebook) d.notebook.records
  all_fine =
      let nb : Notebook = d.notebook in
      let Day : Record → Type 0 = λ t. (among nb.days t.code.day ≡ true) × Timed nb.days t × (t.report.execution ≤ nb.clock) in
      all_three Day (λ t. is_some (security_of nb t.report.isin) ≡ true) (λ t. t.report.price * t.report.quantity ≤ 1000000000000000) (FineIn nb)
      (λ t day listed sized. record { held = day.0; timed = day.1; executed = day.2; listed = listed; sized = sized }) nb.records
      (all_three _ _ _ Day (λ t held timed executed. (held, timed, executed)) nb.records sound.held sound.timed sound.executed)
      sound.listed sound.sized

  ready : Ready sizes d.notebook
  ready =
      record {
        proper = sound.proper;
        spaced = sound.spaced;
        three = sound.three;
        fine = all_fine;
        lines_told = sound.told;
        records = sound.records;
        securities = sound.securities;
        clock = sound.clock;
      }

-- publishing what is due leaves a desk sound
sound_settled : (sizes : Sizes) (nb : Notebook) (standing : List Line) → Ready sizes nb → length standing ≤ sizes.lines
    → Sound sizes (record { notebook = settled nb; standing = standing })
sound_settled sizes nb standing r lines =
    let fine = lasts_settled (FineIn nb) (fine_met nb.clock nb.securities nb.days) nb r.fine in
    record {
      proper = r.proper;
      spaced = r.spaced;
      three = r.three;
      held = All-weaker (FineIn nb) _ (λ t f. f.held) _ fine;
      timed = All-weaker (FineIn nb) _ (λ t f. f.timed) _ fine;
      executed = All-weaker (FineIn nb) _ (λ t f. f.executed) _ fine;
      undue = none_due_settled nb;
      listed = All-weaker (FineIn nb) _ (λ t f. f.listed) _ fine;
      sized = All-weaker (FineIn nb) _ (λ t f. f.sized) _ fine;
      told = omega (arith, r.lines_told, settled_told nb);
      records = omega (arith, r.records, length_published (latest_day nb.days) (nb.written + 1) (due_now nb) nb.records);
      securities = r.securities;
      lines = lines;
      clock = r.clock;
    }

pub sound_new : (sizes : Sizes) → Sound sizes new_desk
sound_new sizes =
    record {
      proper = tt;
      spaced = tt;
      three = omega arith;
      held = tt;
      timed = tt;
      executed = tt;
      undue = tt;
      listed = tt;
      sized = tt;
      told = omega arith;
      records = omega arith;
      securities = omega arith;
      lines = omega arith;
      clock = omega arith;
    }

-- a security that is listed stays listed where one is written over another of its ISIN
found_more : {X : Type 0} (b : Bool) (x : X) (y : Option X) → is_some y ≡ true → is_some (cond b (Some x) y) ≡ true
found_more b x y e = search rules

stays_listed : (isin : Isin) (s : Security) (xs : List Security) → is_some (find (λ x. same_isin x.isin isin) xs) ≡ true
    → is_some (find (λ x. same_isin x.isin isin) (with_security s xs)) ≡ true
stays_listed isin s [] e = absurd cc
stays_listed isin s (x ∷ xs) e = by_tests (same_isin x.isin s.isin) (same_isin x.isin isin) refl refl e (stays_listed isin s xs)
  where
    by_tests : (a b : Bool) → same_isin x.isin s.isin ≡ a → same_isin x.isin isin ≡ b
        → is_some (cond b (Some x) (find (λ y. same_isin y.isin isin) xs)) ≡ true
        → (is_some (find (λ y. same_isin y.isin isin) xs) ≡ true → is_some (find (λ y. same_isin y.isin isin) (with_security s xs)) ≡ true)
        → is_some (find (λ y. same_isin y.isin isin) (cond a (s ∷ xs) (x ∷ with_security s xs))) ≡ true
    by_tests true true f g h later =
        let same : x.isin.bytes ≡ s.isin.bytes = (bytes_eq-Decides x.isin.bytes s.isin.bytes).0 f in
        let here : same_isin s.isin isin ≡ true = subst (λ (bytes : List ℕ). bytes_eq bytes isin.bytes ≡ true) same g in
        ap (λ (c : Bool). is_some (cond c (Some s) (find (λ y. same_isin y.isin isin) xs))) here
    by_tests true false f g h later = found_more (same_isin s.isin isin) s (find (λ y. same_isin y.isin isin) xs) h
    by_tests false true f g h later = ap (λ (c : Bool). is_some (cond c (Some x) (find (λ y. same_isin y.isin isin) (with_security s xs)))) g
    by_tests false false f g h later =
        found_more (same_isin x.isin isin) x (find (λ y. same_isin y.isin isin) (with_security s xs)) (later h)

-- one more is held at most, and none where one of its ISIN was
length_with_security : (s : Security) (xs : List Security)
    → (length (with_security s xs) ≤ length xs + 1)
    × (is_some (find (λ x. same_isin x.isin s.isin) xs) ≡ true → length (with_security s xs) ≡ length xs)
length_with_security s [] = (omega arith, λ e. absurd cc)
length_with_security s (x ∷ xs) = by_test (same_isin x.isin s.isin) (length_with_security s xs)
  where
    by_test : (b : Bool)
        → (length (with_security s xs) ≤ length xs + 1)
        × (is_some (find (λ y. same_isin y.isin s.isin) xs) ≡ true → length (with_security s xs) ≡ length xs)
        → (length (cond b (s ∷ xs) (x ∷ with_security s xs)) ≤ length (x ∷ xs) + 1)
        × (is_some (cond b (Some x) (find (λ y. same_isin y.isin s.isin) xs)) ≡ true
        → length (cond b (s ∷ xs) (x ∷ with_security s xs)) ≡ length (x ∷ xs))
    by_test true rest = (omega arith, λ e. refl)
    by_test false rest = (omega (arith, rest.0), λ e. omega (arith, rest.1 e))

ready_listed : (sizes : Sizes) (nb : Notebook) (s : Security)
    → (not (is_some (security_of nb s.isin)) && leb sizes.securities (length nb.securities)) ≡ false → Ready sizes nb → Ready sizes (listed s nb)
ready_listed sizes nb s place r =
    record {
      proper = r.proper;
      spaced = r.spaced;
      three = r.three;
      fine = All-weaker (FineIn nb) (Fine nb.clock (with_security s nb.securities) nb.days) (λ t f. record {
        held = f.held;
        timed = f.timed;
        executed = f.executed;
        listed = stays_listed t.report.isin s nb.securities f.listed;
        sized = f.sized;
      }) nb.records r.fine;
      lines_told = r.lines_told;
      records = r.records;
      securities = elim (and_cases (not (is_some (security_of nb s.isin))) (leb sizes.securities (length nb.securities)) place) [
        | inl e ↦ omega (arith, r.securities, (length_with_security s nb.securities).1 (not-false _ e))
        | inr e ↦ omega (arith, leb-false _ _ e, (length_with_security s nb.securities).0)
      ];
      clock = r.clock;
    }

ready_advanced : (sizes : Sizes) (nb : Notebook) (moment : ℕ) → nb.clock ≤ moment → moment < 7258118400 → Ready sizes nb → Ready sizes (at_clock moment nb)
ready_advanced sizes nb moment later last r =
    record {
      proper = r.proper;
      spaced = r.spaced;
      three = r.three;
      fine = All-weaker (FineIn nb) (Fine moment nb.securities nb.days) (λ t f. record {
        held = f.held;
        timed = f.timed;
        executed = omega (arith, f.executed);
        listed = f.listed;
        sized = f.sized;
      }) nb.records r.fine;
      lines_told = r.lines_told;
      records = r.records;
      securities = r.securities;
      clock = last;
    }

-- a day that is opened is after those held
pub spaced_now : (nb : Notebook) (o : Opened) → o.day ≡ day_of nb.clock → too_early nb (day_of nb.clock) ≡ false → Spaced nb.days → Spaced (o ∷ nb.days)
spaced_now nb o is early spaced =
    spaced_opened_on o nb.days spaced (subst (λ (x : ℕ). passes (λ p. ltb x p.next) (latest nb.days) ≡ false) (sym is) early)

-- those that pass have what holds of all and follows from passing
all_passing : {X : Type 0} (p : X → Bool) (P Q : X → Type 0) → ((x : X) → p x ≡ true → P x → Q x) → (xs : List X) → All P xs → All Q (filter p xs)
all_passing p P Q f xs all = all_two (λ x. p x ≡ true) P Q f (filter p xs) (kept_by_passes p xs) (all_kept_by p P xs all)

ready_opened : (rules : Rules) (nb : Notebook) → Kept rules.calendar → too_early nb (day_of nb.clock) ≡ false → Ready rules.sizes nb
    → (x : Result Opened Refusal) → opened rules.calendar (day_of nb.clock) ≡ x → Ready rules.sizes (day_opened x nb)
ready_opened rules nb law early r (Err refusal) e = r
ready_opened rules nb law early r (Ok o) e =
    let proper : All Proper (o ∷ nb.days) = (proper_opened rules.calendar (day_of nb.clock) o law e, r.proper) in
    let spaced = spaced_now nb o (noted_day rules.calendar (day_of nb.clock) o e).0 early r.spaced in
    let apart = all_apart (o ∷ nb.days) proper spaced in
    let days : List Opened = take 3 (o ∷ nb.days) in
    record {
      proper = All-take Proper 3 (o ∷ nb.days) proper;
      spaced = spaced_front 3 (o ∷ nb.days) spaced;
      three = omega (arith, length-take 3 (o ∷ nb.days));
      fine = all_passing (λ t. among days t.code.day) (FineIn nb) (Fine nb.clock nb.securities days) (λ t passed f. record {
        held = passed;
        timed = timed_opened 3 o nb.days t apart.0 f.held f.timed;
        executed = f.executed;
        listed = f.listed;
        sized = f.sized;
      }) nb.records r.fine;
      lines_told = omega arith;
      records = omega (arith, r.records, length-filter (λ t. among days t.code.day) nb.records, count_by-le-length (λ t. among days t.code.day) nb.records);
      securities = r.securities;
      clock = r.clock;
    }

ready_without : (sizes : Sizes) (nb : Notebook) (code : Code) → Ready sizes nb → Ready sizes (without code nb)
ready_without sizes nb code r =
    record {
      proper = r.proper;
      spaced = r.spaced;
      three = r.three;
      fine = lasts_withdrawn (FineIn nb) (fine_met nb.clock nb.securities nb.days) code nb.records r.fine;
      lines_told = omega (arith, r.lines_told, recalled_told nb code nb.records);
      records = omega (arith, r.records, length-map nb.records (λ t. cond (same_code t.code code) (withdrawn t) t));
      securities = r.securities;
      clock = r.clock;
    }

ready_with_new : (sizes : Sizes) (nb : Notebook) (x : Option Record) → ((t : Record) → x ≡ Some t → FineIn nb t)
    → length nb.records < sizes.records → Ready sizes nb → Ready sizes (with_new x nb)
ready_with_new sizes nb None new place r = r
ready_with_new sizes nb (Some t) new place r =
    record {
      proper = r.proper;
      spaced = r.spaced;
      three = r.three;
      fine = All-push (FineIn nb) nb.records t r.fine (new t refl);
      lines_told = omega (arith, r.lines_told, sum_by_push told nb.records t);
      records = omega (arith, length_push nb.records t);
      securities = r.securities;
      clock = r.clock;
    }

module _ (rules : Rules) (d : Desk) (law : Kept rules.calendar) (sound : Sound rules.sizes d) where
  ready_noted : (call : Call) → ground rules d call ≡ None → Ready rules.sizes (noted rules d.notebook call)
  ready_noted (Listing s) none =
      ready_listed rules.sizes d.notebook s (none_there (grounds rules d (Listing s)) none).1.1.0 (ready rules.sizes d sound)
  ready_noted (Advance moment) none =
      let gs = none_there (grounds rules d (Advance moment)) none in
      ready_advanced rules.sizes d.notebook moment (ltb-false _ _ gs.0) (leb-false _ _ gs.1.0) (ready rules.sizes d sound)
  ready_noted Open none =
      ready_opened rules d.notebook law (none_there (grounds rules d Open) none).1.1.0 (ready rules.sizes d sound) _ refl
  ready_noted (Enter r) none =
      let apart = all_apart d.notebook.days sound.proper sound.spaced in
      ready_with_new rules.sizes d.notebook (entered rules d.notebook r)
      (λ t e. entry_fine rules d r t sound.proper apart none e) (clear_entry rules d r sound.proper none).place (ready rules.sizes d sound)
  ready_noted (Amend code r) none =
      let apart = all_apart d.notebook.days sound.proper sound.spaced in
      let place = (clear_amendment rules d code r none).place in
      ready_with_new rules.sizes (without code d.notebook) (amended rules d.notebook code r)
      (λ t e. amendment_fine rules d code r t sound.proper apart (all_fine rules.sizes d sound) none e)
      (omega (arith, length-map d.notebook.records (λ t. cond (same_code t.code code) (withdrawn t) t)))
      (ready_without rules.sizes d.notebook code (ready rules.sizes d sound))
  ready_noted (Cancel member code) none = ready_without rules.sizes d.notebook code (ready rules.sizes d sound)
  ready_noted (CarryAway room) none = ready rules.sizes d sound
  ready_noted (Figures isin day sheet) none = ready rules.sizes d sound

  -- opening a day makes no trade due
  undue_opened : (x : Result Opened Refusal) → All (λ t. is_due (day_opened x d.notebook).clock t ≡ false) (day_opened x d.notebook).records
  undue_opened (Err refusal) = sound.undue
  undue_opened (Ok o) = all_kept_by _ _ d.notebook.records sound.undue

  -- where nothing is due, the lines stand as they stood
  lines_quiet : (nb : Notebook) → All (λ t. is_due nb.clock t ≡ false) nb.records → length (d.standing ++ due_lines nb) ≤ rules.sizes.lines
  lines_quiet nb undue =
      omega (arith, length-append d.standing (due_lines nb), ap length (none_due_lines nb undue), sound.lines)

  lines_fit : (call : Call) → ground rules d call ≡ None
      → length (keeps call d.standing ++ lines_of rules d.notebook call) ≤ rules.sizes.lines
  lines_fit (Listing s) none = lines_quiet (noted rules d.notebook (Listing s)) sound.undue
  lines_fit (Advance moment) none =
      omega (arith, length-append d.standing (lines_of rules d.notebook (Advance moment)), ltb-false _ _ (none_there (grounds rules d (Advance moment)) none).1.1.0)
  lines_fit Open none = lines_quiet (noted rules d.notebook Open) (undue_opened (opened rules.calendar (day_of d.notebook.clock)))
  lines_fit (Enter r) none =
      omega (arith, length-append d.standing (lines_of rules d.notebook (Enter r)), (clear_entry rules d r sound.proper none).lines)
  lines_fit (Amend code r) none =
      omega (arith, length-append d.standing (lines_of rules d.notebook (Amend code r)), (clear_amendment rules d code r none).lines)
  lines_fit (Cancel member code) none =
      omega (arith, length-append d.standing (lines_of rules d.notebook (Cancel member code)), ltb-false _ _ (none_there (grounds rules d (Cancel member code)) none).1.1.0)
  lines_fit (CarryAway room) none = omega (arith, ap length (none_due_lines d.notebook sound.undue))
  lines_fit (Figures isin day sheet) none = lines_quiet d.notebook sound.undue

pub sound_taken : (rules : Rules) (d : Desk) (call : Call) → Kept rules.calendar → Sound rules.sizes d → ground rules d call ≡ None
    → Sound rules.sizes (taken rules d call)
sound_taken rules d call law sound none =
    sound_settled rules.sizes (noted rules d.notebook call) (keeps call d.standing ++ lines_of rules d.notebook call)
    (ready_noted rules d law sound call none) (lines_fit rules d law sound call none)
