-- Two notebooks that are equal but for trades of which a fact is known, and what the calls make of them where such trades are not seen.
use Rattle.std.proofs.Common.{◌≡◌, ℕ, ◌+◌, Bool, true, false, ◌&&◌, eqb, List, [], ◌∷◌, length, take, Some, None, Ok, Err, Option, Result, sym, refl, ap, ◌∙◌, subst, rules}
use Rattle.std.specs.List.{list_any, AllByRecursion as All}
use Rattle.std.proofs.lemmas.Bool.{and_right}
use Rattle.std.proofs.ByRecursion.{All-weaker}
use Rattle.refusal.specs.declared.Refusal.{Refusal}
use Rattle.deferral.specs.declared.deadlines.Deadlines.{Deadlines}
use Rattle.deferral.specs.declared.opened.Opened.{Opened}
use Rattle.deferral.specs.Deadlines.{day_of, opened, deadlines_for}
use Rattle.deferral.specs.Judged.{published}
use Rattle.identifier.specs.declared.isin.Isin.{Isin}
use Rattle.report.specs.declared.figures.Sheet.TheVariants.{Public}
use Rattle.report.specs.declared.line.Line.{Line}
use Rattle.report.specs.declared.report.Code.{Code}
use Rattle.report.specs.declared.report.Report.{Report}
use Rattle.report.specs.declared.security.Security.{Security}
use Rattle.report.specs.declared.state.State.{State}
use Rattle.report.specs.declared.state.State.TheVariants.{Waiting}
use Rattle.report.specs.Published.{trade_of}
use Rattle.rulebook.specs.declared.call.Call.{Call}
use Rattle.rulebook.specs.declared.call.Call.TheVariants.{List as Listing, Advance, Open, Enter, Amend, Cancel, CarryAway, Figures}
use Rattle.rulebook.specs.declared.record.Record.{Record}
use Rattle.rulebook.specs.Lists.{and_then, where_some, in_order}
use Rattle.rulebook.specs.Notebook.{Rules, Notebook, same_isin, same_code, of_day, security_of, record_of, among, latest, latest_day, next_code, no_place, is_due, is_published, published_before}
use Rattle.rulebook.specs.Lines.{due_now, due_lines, recall_lines, recalled, told_from}
use Rattle.refusal.specs.Grounds.{first_ground}
use Rattle.rulebook.specs.Grounds.{figures_grounds}
use Rattle.rulebook.specs.Sheets.{sheet_of, figures_of, on_sheet}
use Rattle.rulebook.specs.Taken.{settled, day_opened, with_new, without, withdrawn, with_security, fresh, entered, amended, noted, withdrawal_lines, published_from}
use Rattle.rulebook.specs.Trace.{was_shown, shows}
use Rattle.rulebook.proofs.Unlike.{Each, each_weaker, each_push, each_push_apart, each_changed, each_published, each_kept, each_length, same_kept, Found, neither, one, two, each_found}
use Rattle.rulebook.proofs.Seen.{unshown, none_due}
use Rattle.rulebook.proofs.Sieves.{all_of}

-- a notebook shows no code of which a fact is known
abbrev pub Hides : (Code → Type 0) → Notebook → Type 0
Hides P nb = (c : Code) → P c → shows nb c ≡ false

pub data Sides (P : Code → Type 0) : Notebook → Notebook → Type 0 where
  sides : (clock : ℕ) (securities : List Security) (days : List Opened) (written : ℕ) {xs ys : List Record} → Each P xs ys
      → Sides P (record { clock = clock; securities = securities; days = days; records = xs; written = written })
      (record { clock = clock; securities = securities; days = days; records = ys; written = written })

pub sides_weaker : {P Q : Code → Type 0} {a b : Notebook} → ((c : Code) → P c → Q c) → Sides P a b → Sides Q a b
sides_weaker f (sides c s d w r) = sides c s d w (each_weaker f r)

pub same_next : {P : Code → Type 0} {a b : Notebook} → Sides P a b → next_code a ≡ next_code b
same_next (sides c s d w r) =
    ap (λ (n : ℕ). record { day = latest_day d; serial = n + 1 }) (each_length (each_kept (λ code. eqb code.day (latest_day d)) r))

-- a trade that was never seen is not published
unpublished : (s : State) → was_shown s ≡ false → is_published s ≡ false
unpublished s e = search rules

-- every public sheet is the same
-- whoever asks for a public sheet is refused on the same ground
pub same_figures_ground : {P : Code → Type 0} {a b : Notebook} → Sides P a b → (isin : Isin) (day : ℕ)
    → first_ground (figures_grounds a isin day) ≡ first_ground (figures_grounds b isin day)
same_figures_ground (sides c s d w r) isin day = refl

pub same_sheet : {P : Code → Type 0} {a b : Notebook} → Sides P a b → Hides P a → Hides P b
    → (isin : Isin) (day : ℕ) → sheet_of a isin day Public ≡ sheet_of b isin day Public
same_sheet {P} (sides c s d w {xs = xs} {ys = ys} r) u v isin day = ap figures_of (same_kept (on_sheet isin day Public) r (off xs u) (off ys v)) where
  off : (ts : List Record) → ((c : Code) → P c → list_any (λ t. same_code t.code c && was_shown t.state) ts ≡ false)
      → All (λ t. P t.code → on_sheet isin day Public t ≡ false) ts
  off ts h =
      All-weaker (λ t. P t.code → was_shown t.state ≡ false) (λ t. P t.code → on_sheet isin day Public t ≡ false)
      (λ t k p.
      and_right (same_isin t.report.isin isin) (of_day day t && is_published t.state)
      (and_right (of_day day t) (is_published t.state) (unpublished t.state (k p))))
      ts (unshown P ts h)

-- where nothing unlike is seen after what is due is published, the same trades are due
same_due : {P : Code → Type 0} {a b : Notebook} → Sides P a b → Hides P (settled a) → Hides P (settled b) → due_now a ≡ due_now b
same_due {P} {a} {b} (sides c s d w r) u v =
    ap (in_order published_before) (same_kept (is_due c) r (none_due P a u) (none_due P b v))

pub same_due_lines : {P : Code → Type 0} {a b : Notebook} → Sides P a b → Hides P (settled a) → Hides P (settled b) → due_lines a ≡ due_lines b
same_due_lines (sides c s d w r) u v = ap (told_from (latest_day d) (w + 1)) (same_due (sides c s d w r) u v)

pub sides_settled : {P : Code → Type 0} {a b : Notebook} → Sides P a b → Hides P (settled a) → Hides P (settled b) → Sides P (settled a) (settled b)
sides_settled {P} {a} {b} (sides c s d w {xs = xs} {ys = ys} r) u v =
    subst
    (λ (ds : List Record). Sides P (settled a)
    (record { clock = c; securities = s; days = d; records = published_from (latest_day d) (w + 1) ds ys; written = w + length ds }))
    (same_due (sides c s d w r) u v) (sides c s d (w + length (due_now a)) (each_published (latest_day d) (w + 1) (due_now a) r))

-- a day that is opened strikes out the same trades
sides_opened : {P : Code → Type 0} {a b : Notebook} (o : Result Opened Refusal) → Sides P a b → Sides P (day_opened o a) (day_opened o b)
sides_opened (Err e) k = k
sides_opened (Ok o) (sides c s d w r) = sides c s (take 3 (o ∷ d)) 0 (each_kept (λ code. among (take 3 (o ∷ d)) code.day) r)

-- a new trade that is the same on both sides, and new trades of one code of which the fact is known
sides_new : {P : Code → Type 0} {a b : Notebook} (o : Option Record) → Sides P a b → Sides P (with_new o a) (with_new o b)
sides_new None k = k
sides_new (Some t) (sides c s d w r) = sides c s d w (each_push t r)

pub sides_new_apart : {P : Code → Type 0} {a b : Notebook} (t u : Record) → t.code ≡ u.code → P t.code → Sides P a b → Sides P (with_new (Some t) a) (with_new (Some u) b)
sides_new_apart t u e p (sides c s d w r) = sides c s d w (each_push_apart t u e p r)

-- what is told of a withdrawal is the same, since nothing is told of a trade that was not seen
pub same_recall : {P : Code → Type 0} {a b : Notebook} (code : Code) → Sides P a b → Hides P a → Hides P b
    → recall_lines a code ≡ recall_lines b code
same_recall {P} {a} {b} code (sides c s d w {xs = xs} {ys = ys} r) u v =
    go (each_found (λ k. same_code k code) r (unshown P xs u) (unshown P ys v)) where
      quiet : (nb : Notebook) (t : Record) → was_shown t.state ≡ false → recalled nb t ≡ []
      quiet nb t e = rw (unpublished t.state e) refl

      go : {o p : Option Record} → Found P (λ t. P t.code → was_shown t.state ≡ false) (λ t. P t.code → was_shown t.state ≡ false) o p
          → where_some o (recalled a) ≡ where_some p (recalled b)
      go neither = refl
      go (one i j) = refl
      go (two {x = x} {y = y} i j e p q) = quiet a x (i p) ∙ sym (quiet b y (j q))

pub sides_without : {P : Code → Type 0} {a b : Notebook} (code : Code) → Sides P a b → Hides P a → Hides P b
    → Sides P (without code a) (without code b)
sides_without {P} {a} {b} code (sides c s d w {xs = xs} {ys = ys} r) u v =
    subst
    (λ (ls : List Line). Sides P (without code a)
    (record { clock = c; securities = s; days = d; records = (without code b).records; written = w + length ls }))
    (same_recall code (sides c s d w r) u v) (sides c s d (w + length (recall_lines a code)) (each_changed code withdrawn (λ x. refl) r))

-- a new trade depends on what is the same on both sides
and_then_same : {X Y : Type 0} (o : Option X) (f g : X → Option Y) → ((x : X) → f x ≡ g x) → and_then o f ≡ and_then o g
and_then_same None f g e = refl
and_then_same (Some x) f g e = e x

same_fresh : {P : Code → Type 0} {a b : Notebook} (rules : Rules) → Sides P a b → (am : Bool) (d : Deadlines) (r : Report) (s : Security) → fresh rules a am d r s ≡ fresh rules b am d r s
same_fresh rules (sides c l os w k) am d r s =
    ap
    (λ (code : Code). record {
      code = code;
      report = r;
      deadlines = d;
      moment = (published rules.tier d c (trade_of r s)).moment;
      amended = am;
      state = Waiting;
      place = no_place;
    })
    (same_next (sides c l os w k))

same_entered : {P : Code → Type 0} {a b : Notebook} (rules : Rules) (r : Report) → Sides P a b → entered rules a r ≡ entered rules b r
same_entered {P} {a} {b} rules r (sides c l os w k) =
    and_then_same (latest os) _ _ (λ o.
    and_then_same (deadlines_for o c r.execution) _ _ (λ d.
    and_then_same (security_of a r.isin) _ _ (λ s. ap Some (same_fresh rules (sides c l os w k) false d r s))))

-- the trades of a code have the same deadlines on both sides
abbrev pub SameDeadlines : Notebook → Notebook → Code → Type 0
SameDeadlines a b code = (t u : Record) → record_of a code ≡ Some t → record_of b code ≡ Some u → t.deadlines ≡ u.deadlines

same_amended : {P : Code → Type 0} {a b : Notebook} (rules : Rules) (code : Code) (r : Report) → SameDeadlines a b code → Sides P a b → amended rules a code r ≡ amended rules b code r
same_amended {P} {a} {b} rules code r same (sides c l os w {xs = xs} {ys = ys} k) =
    go (each_found (λ i. same_code i code) k (all_of _ (λ t. tt) xs) (all_of _ (λ t. tt) ys)) refl refl where
      new : Notebook → Record → Option Record
      new nb t = and_then (security_of nb r.isin) (λ s. Some (fresh rules nb true t.deadlines r s))

      moved : (t : Record) → new a t ≡ new b t
      moved t = and_then_same (security_of a r.isin) _ _ (λ s. ap Some (same_fresh rules (sides c l os w k) true t.deadlines r s))

      go : {o p : Option Record} → Found P (λ t. Unit {0}) (λ t. Unit {0}) o p → record_of a code ≡ o → record_of b code ≡ p → and_then o (new a) ≡ and_then p (new b)
      go neither e f = refl
      go (one {x = t} i j) e f = moved t
      go (two {x = t} {y = u} i j m p q) e f =
          moved t ∙ ap (λ (d : Deadlines). and_then (security_of b r.isin) (λ s. Some (fresh rules b true d r s))) (same t u e f)

-- what a call makes of both notebooks, before what is due is published
pub sides_noted : {P : Code → Type 0} {a b : Notebook} (rules : Rules) (call : Call) → ((code : Code) (r : Report) → call ≡ Amend code r → SameDeadlines a b code)
    → Sides P a b → Hides P a → Hides P b → Sides P (noted rules a call) (noted rules b call)
sides_noted rules (Listing s) same (sides c l d w k) u v = sides c (with_security s l) d w k
sides_noted rules (Advance moment) same (sides c l d w k) u v = sides moment l d w k
sides_noted rules Open same (sides c l d w k) u v = sides_opened (opened rules.calendar (day_of c)) (sides c l d w k)
sides_noted {P} {a} {b} rules (Enter r) same k u v =
    subst (λ (o : Option Record). Sides P (noted rules a (Enter r)) (with_new o b)) (same_entered rules r k) (sides_new (entered rules a r) k)
sides_noted {P} {a} {b} rules (Amend code r) same k u v =
    subst (λ (o : Option Record). Sides P (noted rules a (Amend code r)) (with_new o (without code b))) (same_amended rules code r (same code r refl) k)
    (sides_new (amended rules a code r) (sides_without code k u v))
sides_noted rules (Cancel member code) same k u v = sides_without code k u v
sides_noted rules (CarryAway room) same k u v = k
sides_noted rules (Figures isin day sheet) same k u v = k

-- and what is told of what it withdraws
pub same_withdrawal : {P : Code → Type 0} {a b : Notebook} (call : Call) → Sides P a b → Hides P a → Hides P b
    → withdrawal_lines a call ≡ withdrawal_lines b call
same_withdrawal (Listing s) k u v = refl
same_withdrawal (Advance moment) k u v = refl
same_withdrawal Open k u v = refl
same_withdrawal (Enter r) k u v = refl
same_withdrawal (Amend code r) k u v = same_recall code k u v
same_withdrawal (Cancel member code) k u v = same_recall code k u v
same_withdrawal (CarryAway room) k u v = refl
same_withdrawal (Figures isin day sheet) k u v = refl
