-- What every notebook keeps: codes and lines reach to the latest opened day, and count each day's trades and lines from 1.
use Rattle.std.proofs.Common.{◌≡◌, ℕ, ◌+◌, ◌<◌, ◌≤◌, List, [], ◌∷◌, ◌++◌, map, length, take, filter, sym, refl, ap, ◌∙◌, subst, arith, length-append}
use Rattle.std.specs.List.{range_with_len, AllByRecursion as All}
use Rattle.std.proofs.ByRecursion.{All-append, All-weaker, All-take, all_kept_by}
use Rattle.std.proofs.lemmas.List.{length-map}
use Rattle.deferral.specs.declared.opened.Opened.{Opened}
use Rattle.report.specs.declared.line.Line.{Line}
use Rattle.report.specs.declared.report.Code.{Code}
use Rattle.rulebook.specs.Notebook.{latest_day, among, of_day}
use Rattle.rulebook.specs.Gaps.{Counting, line_numbers}
use Rattle.rulebook.proofs.Numbering.{numbers_on, numbers_on_append, all_on, none_on, counting_on, counting_kept}

-- a day was opened, and the latest is this or a later one
abbrev pub Reached : List Opened → ℕ → Type 0
Reached [] day = ⊥
Reached (o ∷ os) day = day ≤ o.day

-- all that was reached lies before a day
abbrev pub Past : List Opened → ℕ → Type 0
Past [] day = Unit {0}
Past (o ∷ os) day = o.day < day

pub latest_reached : (days : List Opened) (day : ℕ) → Reached days day → Reached days (latest_day days)
latest_reached [] day h = h
latest_reached (o ∷ os) day h = omega arith

abbrev pub serials_on : List Code → ℕ → List ℕ
serials_on codes day = numbers_on (λ c. c.day) (λ c. c.serial) codes day

pub record Coded (days : List Opened) (codes : List Code) : Type 0 where
  pub onward : All (λ o. o.day < o.next) days
  pub reached : All (λ c. Reached days c.day) codes
  pub counted : (day : ℕ) → Counting (serials_on codes day)

pub record Lined (days : List Opened) (written : ℕ) (lines : List Line) : Type 0 where
  pub reached : All (λ l. Reached days l.place.day) lines
  pub counted : (day : ℕ) → Counting (line_numbers lines day)
  pub written_are : length (line_numbers lines (latest_day days)) ≡ written

-- a new trade has the next serial of the latest day
pub coded_more : (days : List Opened) (codes : List Code) (c : Code) → Coded days codes → Reached days c.day
    → c.serial ≡ length (serials_on codes c.day) + 1 → Coded days (codes ++ c ∷ [])
coded_more days codes c h r e =
    record {
      onward = h.onward;
      reached = All-append (λ x. Reached days x.day) codes (c ∷ []) h.reached (r, tt);
      counted = counting_on (λ x. x.day) (λ x. x.serial) codes (c ∷ []) c.day h.counted (refl, tt) (ap (λ (n : ℕ). n ∷ []) e);
    }

-- lines of the latest day go on with its numbers
pub lined_more : (days : List Opened) (written : ℕ) (lines more : List Line) → Lined days written lines
    → All (λ l. Reached days l.place.day) more → All (λ l. l.place.day ≡ latest_day days) more
    → map (λ l. l.place.number) more ≡ range_with_len (written + 1) (length more) → Lined days (written + length more) (lines ++ more)
lined_more days written lines more h r of_day e =
    let day : Line → ℕ = λ l. l.place.day in
    let number : Line → ℕ = λ l. l.place.number in
    let on : numbers_on day number more (latest_day days) ≡ map number more = all_on day number more (latest_day days) of_day in
    record {
      reached = All-append (λ l. Reached days l.place.day) lines more h.reached r;
      counted =
          counting_on day number lines more (latest_day days) h.counted of_day
          (subst (λ (w : ℕ). map number more ≡ range_with_len (w + 1) (length more)) (sym h.written_are) e);
      written_are =
          ap length (numbers_on_append day number lines more (latest_day days))
          ∙ length-append (numbers_on day number lines (latest_day days)) (numbers_on day number more (latest_day days))
          ∙ ap (λ (n : ℕ). n + length (numbers_on day number more (latest_day days))) h.written_are
          ∙ ap (λ (n : ℕ). written + n) (ap length on ∙ length-map more number);
    }

-- a day is opened after all that was reached
pub below : (days : List Opened) (o : Opened) (day : ℕ) → Past days o.day → Reached days day → day < o.day
below [] o day later h = absurd h
below (p ∷ ps) o day later h = omega arith

pub coded_opened : (days : List Opened) (codes : List Code) (o : Opened) → Coded days codes → Past days o.day → o.day < o.next
    → Coded (take 3 (o ∷ days)) (filter (λ c. among (take 3 (o ∷ days)) c.day) codes)
coded_opened days codes o h later next =
    record {
      onward = All-take (λ p. p.day < p.next) 3 (o ∷ days) (next, h.onward);
      reached =
          all_kept_by (λ c. among (take 3 (o ∷ days)) c.day) (λ c. c.day ≤ o.day) codes
          (All-weaker (λ c. Reached days c.day) (λ c. c.day ≤ o.day) (λ c r. omega (arith, below days o c.day later r)) codes h.reached);
      counted = counting_kept (λ c. c.day) (λ c. c.serial) (among (take 3 (o ∷ days))) codes h.counted;
    }

pub lined_opened : (days : List Opened) (written : ℕ) (lines : List Line) (o : Opened) → Lined days written lines → Past days o.day
    → Lined (take 3 (o ∷ days)) 0 lines
lined_opened days written lines o h later =
    record {
      reached = All-weaker (λ l. Reached days l.place.day) (λ l. l.place.day ≤ o.day) (λ l r. omega (arith, below days o l.place.day later r)) lines h.reached;
      counted = h.counted;
      written_are =
          ap length (none_on (λ l. l.place.day) (λ l. l.place.number) lines o.day
          (All-weaker (λ l. Reached days l.place.day) (λ l. l.place.day ≡ o.day → ⊥)
          (λ l r e. omega (arith, below days o l.place.day later r, e)) lines h.reached));
    }
