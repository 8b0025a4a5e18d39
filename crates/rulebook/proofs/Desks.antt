-- Two desks that differ only in trades that are not seen to the end, and what the calls make of them.
use Rattle.std.proofs.Common.{◌≡◌, false, List, [], ◌∷◌, ◌++◌, Option, sym, refl, ◌∙◌, subst}
use Rattle.report.specs.declared.line.Line.{Line}
use Rattle.report.specs.declared.report.Code.{Code}
use Rattle.report.specs.declared.report.Report.{Report}
use Rattle.rulebook.specs.declared.call.Call.{Call}
use Rattle.rulebook.specs.declared.call.Call.TheVariants.{Enter, Amend}
use Rattle.rulebook.specs.declared.record.Record.{Record}
use Rattle.rulebook.specs.Notebook.{Rules, Notebook, next_code}
use Rattle.rulebook.specs.Taken.{noted, entered, amended, with_new, withdrawal_lines, lines_of}
use Rattle.rulebook.specs.Desk.{Desk, taken, keeps}
use Rattle.rulebook.specs.Histories.{Entry, History, taking, step}
use Rattle.rulebook.specs.Trace.{shows, Unseen}
use Rattle.rulebook.proofs.Granted.{New}
use Rattle.rulebook.proofs.Sides.{Hides, Sides, sides_weaker, same_next, same_due_lines, sides_settled, sides_new_apart, same_recall, sides_without, SameDeadlines, sides_noted, same_withdrawal}

-- two desks with the same lines, whose notebooks are equal but for trades of which a fact is known
pub data Desks (P : Code → Type 0) : Desk → Desk → Type 0 where
  desks : (standing : List Line) {a b : Notebook} → Sides P a b → Desks P (record { notebook = a; standing = standing }) (record { notebook = b; standing = standing })

pub notebooks : {P : Code → Type 0} {a b : Desk} → Desks P a b → Sides P a.notebook b.notebook
notebooks (desks ls k) = k

pub same_standing : {P : Code → Type 0} {a b : Desk} → Desks P a b → a.standing ≡ b.standing
same_standing (desks ls k) = refl

pub desks_weaker : {P Q : Code → Type 0} {a b : Desk} → ((c : Code) → P c → Q c) → Desks P a b → Desks Q a b
desks_weaker f (desks ls k) = desks ls (sides_weaker f k)

pub joined : {x y p q : List Line} → x ≡ y → p ≡ q → x ++ p ≡ y ++ q
joined e f = cc

-- where the calls keep the same lines and tell the same of what they withdraw, the desks after them are such desks
desks_taken : {P Q : Code → Type 0} {a b : Desk} (rules : Rules) (c c' : Call) → ((ls : List Line) → keeps c ls ≡ keeps c' ls) → Desks P a b
    → withdrawal_lines a.notebook c ≡ withdrawal_lines b.notebook c' → Sides Q (noted rules a.notebook c) (noted rules b.notebook c')
    → Hides Q (taken rules a c).notebook → Hides Q (taken rules b c').notebook → Desks Q (taken rules a c) (taken rules b c')
desks_taken {P} {Q} {a} {b} rules c c' e (desks ls k) m n u v =
    subst (λ (ts : List Line). Desks Q (taken rules a c) (record { notebook = (taken rules b c').notebook; standing = ts }))
    (joined (e ls) (joined m (same_due_lines n u v))) (desks (keeps c ls ++ lines_of rules a.notebook c) (sides_settled n u v))

-- the codes of trades that are not seen from here to the end of either history
abbrev pub Hidden : Rules → Desk → Desk → History → History → Code → Type 0
Hidden rules a b g h c = Unseen rules a g c × Unseen rules b h c

unseen_now : (rules : Rules) (d : Desk) (h : History) (c : Code) → Unseen rules d h c → shows d.notebook c ≡ false
unseen_now rules d [] c u = u
unseen_now rules d (e ∷ h) c u = u.0

-- new trades on both sides, of a code that is not seen
both_new : {P : Code → Type 0} {a b x y : Notebook} {o p : Option Record} → Sides P x y → New a o → New b p
    → next_code a ≡ next_code b → P (next_code a) → Sides P (with_new o x) (with_new p y)
both_new {P} {a} {b} {x} {y} k m n e p =
    rw (m.is, n.is) (sides_new_apart m.trade n.trade (m.next ∙ e ∙ sym n.next) (subst P (sym m.next) p) k)

module _ (rules : Rules) where
  pub hides_left : (a b : Desk) (g h : History) → Hides (Hidden rules a b g h) a.notebook
  hides_left a b g h c u = unseen_now rules a g c u.0

  pub hides_right : (a b : Desk) (g h : History) → Hides (Hidden rules a b g h) b.notebook
  hides_right a b g h c u = unseen_now rules b h c u.1

  pub still_hidden : (a b : Desk) (d e : Entry) (g h : History) (c : Code) → Hidden rules a b (d ∷ g) (e ∷ h) c → Hidden rules (step rules a d) (step rules b e) g h c
  still_hidden a b d e g h c u = (u.0.1, u.1.1)

  -- both calls are taken and equal
  pub after_same : (a b : Desk) (g h : History) (call : Call) → ((code : Code) (r : Report) → call ≡ Amend code r → SameDeadlines a.notebook b.notebook code)
      → Desks (Hidden rules a b (taking call ∷ g) (taking call ∷ h)) a b
      → Desks (Hidden rules (taken rules a call) (taken rules b call) g h) (taken rules a call) (taken rules b call)
  after_same a b g h call dl k =
      let u = hides_left a b (taking call ∷ g) (taking call ∷ h) in
      let v = hides_right a b (taking call ∷ g) (taking call ∷ h) in
      desks_taken rules call call (λ ls. refl) k (same_withdrawal call (notebooks k) u v)
      (sides_weaker (still_hidden a b (taking call) (taking call) g h) (sides_noted rules call dl (notebooks k) u v))
      (hides_left (taken rules a call) (taken rules b call) g h) (hides_right (taken rules a call) (taken rules b call) g h)

  -- both are entries, of trades that are seen on neither side
  pub after_entries : (a b : Desk) (g h : History) (r r' : Report)
      → Unseen rules (taken rules a (Enter r)) g (next_code a.notebook) → Unseen rules (taken rules b (Enter r')) h (next_code b.notebook)
      → New a.notebook (entered rules a.notebook r) → New b.notebook (entered rules b.notebook r')
      → Desks (Hidden rules a b (taking (Enter r) ∷ g) (taking (Enter r') ∷ h)) a b
      → Desks (Hidden rules (taken rules a (Enter r)) (taken rules b (Enter r')) g h) (taken rules a (Enter r)) (taken rules b (Enter r'))
  after_entries a b g h r r' p q m n k =
      let a' = taken rules a (Enter r) in
      let b' = taken rules b (Enter r') in
      let e = same_next (notebooks k) in
      desks_taken rules (Enter r) (Enter r') (λ ls. refl) k refl
      (both_new (sides_weaker (still_hidden a b (taking (Enter r)) (taking (Enter r')) g h) (notebooks k)) m n e (p, subst (Unseen rules b' h) (sym e) q))
      (hides_left a' b' g h) (hides_right a' b' g h)

  -- both are amendments of one code, by such trades
  pub after_amendments : (a b : Desk) (g h : History) (code : Code) (r r' : Report)
      → Unseen rules (taken rules a (Amend code r)) g (next_code a.notebook) → Unseen rules (taken rules b (Amend code r')) h (next_code b.notebook)
      → New a.notebook (amended rules a.notebook code r) → New b.notebook (amended rules b.notebook code r')
      → Desks (Hidden rules a b (taking (Amend code r) ∷ g) (taking (Amend code r') ∷ h)) a b
      → Desks (Hidden rules (taken rules a (Amend code r)) (taken rules b (Amend code r')) g h) (taken rules a (Amend code r)) (taken rules b (Amend code r'))
  after_amendments a b g h code r r' p q m n k =
      let a' = taken rules a (Amend code r) in
      let b' = taken rules b (Amend code r') in
      let e = same_next (notebooks k) in
      let u = hides_left a b (taking (Amend code r) ∷ g) (taking (Amend code r') ∷ h) in
      let v = hides_right a b (taking (Amend code r) ∷ g) (taking (Amend code r') ∷ h) in
      desks_taken rules (Amend code r) (Amend code r') (λ ls. refl) k (same_recall code (notebooks k) u v)
      (both_new (sides_weaker (still_hidden a b (taking (Amend code r)) (taking (Amend code r')) g h) (sides_without code (notebooks k) u v)) m n e
      (p, subst (Unseen rules b' h) (sym e) q))
      (hides_left a' b' g h) (hides_right a' b' g h)
