-- After every lawful history codes and line numbers have no gaps.
use Rattle.std.proofs.Common.{◌≡◌, Bool, true, false, cond, List, [], ◌∷◌, ◌++◌, is_some, None, sym, refl, ap, ◌∙◌, subst, append_assoc, append-nil, rules}
use Rattle.report.specs.declared.line.Line.{Line}
use Rattle.rulebook.specs.declared.call.Call.{Call}
use Rattle.rulebook.specs.Notebook.{Rules, blank}
use Rattle.rulebook.specs.Taken.{lines_of}
use Rattle.rulebook.specs.Desk.{Desk, new_desk, taken, carries, keeps}
use Rattle.rulebook.specs.Gaps.{Counting, NoGaps}
use Rattle.rulebook.specs.Grounds.{ground}
use Rattle.rulebook.specs.Histories.{History, step, fed, Rightly, notebook_after, carried, carried_from, tape_from}
use Rattle.rulebook.proofs.Always.{none_from}
use Rattle.rulebook.proofs.Numbering.{numbers_on_map}
use Rattle.rulebook.proofs.Taking.{Well, call_well}

pub blank_well : Well blank []
blank_well =
    record {
      coded = record { onward = tt; reached = tt; counted = λ day. refl };
      lined = record { reached = tt; counted = λ day. refl; written_are = refl };
    }

-- what a call carries away and what it leaves is what stood
carried_or_kept : (call : Call) (standing : List Line) → carries call standing ++ keeps call standing ≡ standing
carried_or_kept call standing = search (rules, append-nil)

taken_well : (rules : Rules) (d : Desk) (call : Call) (before : List Line) → ground rules d call ≡ None → Well d.notebook (before ++ d.standing)
    → Well (taken rules d call).notebook ((before ++ carries call d.standing) ++ (taken rules d call).standing)
taken_well rules d call before e h =
    let more = lines_of rules d.notebook call in
    let c = carries call d.standing in
    let k = keeps call d.standing in
    let same : (before ++ d.standing) ++ more ≡ (before ++ c) ++ (k ++ more) =
    ap (λ (x : List Line). (before ++ x) ++ more) (sym (carried_or_kept call d.standing))
    ∙ ap (λ (x : List Line). x ++ more) (sym (append_assoc before c k)) ∙ append_assoc (before ++ c) k more in
    subst (Well (taken rules d call).notebook) same (call_well rules d call (before ++ d.standing) e h)

step_well : (rules : Rules) (d : Desk) (call : Call) (refused : Bool) (before : List Line) → refused ≡ is_some (ground rules d call)
    → Well d.notebook (before ++ d.standing)
    → Well (cond refused d (taken rules d call)).notebook ((before ++ cond refused [] (carries call d.standing)) ++ (cond refused d (taken rules d call)).standing)
step_well rules d call true before e h = subst (λ (x : List Line). Well d.notebook (x ++ d.standing)) (sym (append-nil before)) h
step_well rules d call false before e h = taken_well rules d call before (none_from (ground rules d call) (sym e)) h

pub history_well : (rules : Rules) (d : Desk) (h : History) (before : List Line) → Rightly rules d h → Well d.notebook (before ++ d.standing)
    → Well (fed rules d h).notebook (before ++ tape_from rules d h)
history_well rules d [] before r w = w
history_well rules d (e ∷ es) before (r, rs) w =
    subst (Well (fed rules (step rules d e) es).notebook)
    (append_assoc before (carried d e) (tape_from rules (step rules d e) es)
    ∙ ap (λ (x : List Line). before ++ x) (sym (append_assoc (carried d e) (carried_from rules (step rules d e) es) (fed rules (step rules d e) es).standing)))
    (history_well rules (step rules d e) es (before ++ carried d e) rs (step_well rules d e.call e.refused before r w))

pub no_gaps : NoGaps
no_gaps rules kept h lawful =
    let w = history_well rules new_desk h [] lawful blank_well in
    record {
      codes =
          λ day. subst Counting (sym (numbers_on_map (λ c. c.day) (λ c. c.serial) (λ t. t.code) (notebook_after rules h).records day)) (w.coded.counted day);
      lines = w.lined.counted;
    }
