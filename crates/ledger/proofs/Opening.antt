-- What a day that is opened leaves of filed records.
use Rattle.std.proofs.Common.{◌≡◌, ℕ, ◌<◌, ◌≤◌, true, false, eqb, List, [], ◌∷◌, ◌++◌, map, length, take, drop, filter, Some, None, Option, sym, refl, ap, ◌∙◌, subst, arith}
use Rattle.std.specs.List.{flat_map, AllByRecursion as All}
use Rattle.std.specs.Option.{option_to_list}
use Rattle.std.proofs.ByRecursion.{All-weaker}
use Rattle.std.proofs.lemmas.List.{append-nil, append_assoc, length-append, length-drop, drop_at, drop-map}
use Rattle.std.proofs.lemmas.Bool.Decides.{nat_tests}
use Rattle.std.proofs.lemmas.Bool.{and_parts, eqb-true}
use Rattle.deferral.specs.declared.opened.Opened.{Opened}
use Rattle.rulebook.specs.declared.record.Record.{Record}
use Rattle.rulebook.specs.Notebook.{among}
use Rattle.ledger.specs.declared.days.Days.{Days}
use Rattle.ledger.specs.declared.held_day.HeldDay.{HeldDay}
use Rattle.ledger.specs.HeldDay.{new_day, lowered}
use Rattle.ledger.specs.Days.{held_days, falls_out, with_opened}
use Rattle.ledger.specs.Packed.{in_front}
use Rattle.ledger.specs.Filed.{codes_of, all_codes, record_codes, Later, Falling, Filed}
use Rattle.ledger.proofs.Codes.{length_codes, each_day, each_day_in}
use Rattle.ledger.proofs.Filing.{length_filed, kept_behind}

-- ---- the days that are held

some_few : {X : Type 0} (os : List (Option X)) → length (flat_map option_to_list os) ≤ length os
some_few [] = omega arith
some_few (None ∷ os) = let few = some_few os in omega arith
some_few (Some x ∷ os) = let few = some_few os in omega arith

pub held_few : (d : Days) → length (held_days d) ≤ 3
held_few d =
    let three : length d.held ≡ 3 = eqb-true (length d.held) 3 (and_parts (eqb (length d.held) 3) (in_front d.held) d.packed).0 in
    let few = some_few d.held in
    omega arith

-- a day after the latest is after all
pub later_than_all : (h : HeldDay) (hs : List HeldDay) (day : ℕ) → Falling (h ∷ hs) → h.opened.day < day → Later day (h ∷ hs)
later_than_all h hs day (later, f) l = (l, All-weaker (λ g. g.opened.day < h.opened.day) (λ g. g.opened.day < day) (λ g m. omega arith) hs later)

-- ---- which records are of the days held

among_behind : (o : Opened) (os : List Opened) (day : ℕ) → among os day ≡ true → among (o ∷ os) day ≡ true
among_behind o os day h = grind (arith, nat_tests)

among_itself : (hs : List HeldDay) → All (λ h. among (map (λ g. g.opened) hs) h.opened.day ≡ true) hs
among_itself [] = tt
among_itself (h ∷ hs) =
    let os = map (λ g. g.opened) hs in
    let behind : (g : HeldDay) → among os g.opened.day ≡ true → among (h.opened ∷ os) g.opened.day ≡ true = λ g. among_behind h.opened os g.opened.day in (
      grind (arith, nat_tests),
      All-weaker (λ g. among os g.opened.day ≡ true) (λ g. among (h.opened ∷ os) g.opened.day ≡ true) behind hs (among_itself hs),
    )

among_none : (os : List Opened) (day : ℕ) → All (λ o. o.day ≡ day → ⊥) os → among os day ≡ false
among_none [] day h = refl
among_none (o ∷ os) day (h, hs) = grind (arith, nat_tests, h, among_none os day hs)

-- each code's day is among the days with one more
among_held : (o : Opened) (hs : List HeldDay) → All (λ c. among (o ∷ map (λ h. h.opened) hs) c.day ≡ true) (all_codes hs)
among_held o hs =
    let os = map (λ h. h.opened) hs in
    All-weaker (λ c. among os c.day ≡ true) (λ c. among (o ∷ os) c.day ≡ true) (λ c. among_behind o os c.day) (all_codes hs) (each_day (λ day. among os day ≡ true) hs (among_itself hs))

kept_held : (o : Opened) (hs : List HeldDay) (rs : List Record) → Filed hs rs → filter (λ t. among (o ∷ map (λ h. h.opened) hs) t.code.day) rs ≡ rs
kept_held o hs rs filed = kept_behind (λ c. among (o ∷ map (λ h. h.opened) hs) c.day) rs [] (all_codes hs) filed.codes tt (among_held o hs)

-- ---- a day that is opened

filed_new : (o : Opened) (hs : List HeldDay) (rs : List Record) → Later o.day hs → Filed hs rs → Filed (new_day o (length rs) ∷ hs) rs
filed_new o hs rs later filed =
    record {
      codes = filed.codes ∙ sym (append-nil (all_codes hs));
      begin = (length_filed hs rs filed, filed.begin);
      falling = (later, filed.falling);
    }

module _ (a b c : HeldDay) (rs : List Record) (filed : Filed (a ∷ b ∷ c ∷ []) rs) where
  oldest_first : record_codes rs ≡ codes_of c ++ (codes_of b ++ codes_of a)
  oldest_first = filed.codes ∙ append_assoc (codes_of c) (codes_of b) (codes_of a)

  filed_behind : Filed (lowered c.taken a ∷ lowered c.taken b ∷ []) (drop c.taken rs)
  filed_behind =
      record {
        codes = sym (drop-map (λ t. t.code) c.taken rs) ∙ ap (drop c.taken) oldest_first ∙ drop_at (codes_of c) (codes_of b ++ codes_of a) c.taken (length_codes c);
        begin = (omega (arith, filed.begin.0, length-append (codes_of c) (codes_of b), length_codes c), (omega (arith, filed.begin.1.0, length_codes c), tt));
        falling = ((filed.falling.0.0, tt), (tt, tt));
      }

  kept_behind_oldest : (o : Opened) → c.opened.day < o.day → filter (λ t. among (o ∷ a.opened ∷ b.opened ∷ []) t.code.day) rs ≡ drop c.taken rs
  kept_behind_oldest o later =
      let days = o ∷ a.opened ∷ b.opened ∷ [] in
      let out : All (λ e. among days e.day ≡ false) (codes_of c) =
      each_day_in (λ day. among days day ≡ false) c (among_none days c.opened.day ((λ e. omega arith), ((λ e. omega (arith, filed.falling)), ((λ e. omega (arith, filed.falling)), tt)))) in
      kept_behind (λ e. among days e.day) rs (codes_of c) (codes_of b ++ codes_of a) oldest_first out (among_held o (a ∷ b ∷ [])) ∙ ap (λ n. drop n rs) (length_codes c)

-- the days held, and the records that stay, are filed again
pub filed_opened : (o : Opened) (hs : List HeldDay) (rs : List Record) → length hs ≤ 3 → Later o.day hs → Filed hs rs → Filed (with_opened o (length rs) hs) (drop (falls_out hs) rs)
filed_opened o [] rs few later filed = filed_new o [] rs later filed
filed_opened o (a ∷ []) rs few later filed = filed_new o (a ∷ []) rs later filed
filed_opened o (a ∷ b ∷ []) rs few later filed = filed_new o (a ∷ b ∷ []) rs later filed
filed_opened o (a ∷ b ∷ c ∷ []) rs few (p, (q, (r, u))) filed =
    let n = c.taken in
    let rest = lowered n a ∷ lowered n b ∷ [] in
    subst (λ m. Filed (new_day o m ∷ rest) (drop n rs)) (length-drop n rs) (filed_new o rest (drop n rs) (p, (q, tt)) (filed_behind a b c rs filed))
filed_opened o (a ∷ b ∷ c ∷ d ∷ hs) rs few later filed = absurd (omega arith)

-- the records that stay are those of the days held
pub kept_opened : (o : Opened) (hs : List HeldDay) (rs : List Record) → length hs ≤ 3 → Later o.day hs → Filed hs rs → filter (λ t. among (take 3 (o ∷ map (λ h. h.opened) hs)) t.code.day) rs ≡ drop (falls_out hs) rs
kept_opened o [] rs few later filed = kept_held o [] rs filed
kept_opened o (a ∷ []) rs few later filed = kept_held o (a ∷ []) rs filed
kept_opened o (a ∷ b ∷ []) rs few later filed = kept_held o (a ∷ b ∷ []) rs filed
kept_opened o (a ∷ b ∷ c ∷ []) rs few (p, (q, (r, u))) filed = kept_behind_oldest a b c rs filed o r
kept_opened o (a ∷ b ∷ c ∷ d ∷ hs) rs few later filed = absurd (omega arith)
