-- What is known of the days held, whichever calendars they came from.
use Rattle.std.proofs.Common.{◌≡◌, ℕ, zero, suc, ◌<◌, ◌≤◌, true, false, ltb, List, [], ◌∷◌, take, Some, Ok, refl, subst, arith}
use Rattle.std.specs.List.{AllByRecursion as All}
use Rattle.std.proofs.ByRecursion.{All-weaker, All-take}
use Rattle.std.proofs.lemmas.Bool.{ltb-false}
use Rattle.calendar.specs.Meaning.{Meaning, Lawful as Kept, trading}
use Rattle.calendar.specs.Trading.{close, noon_point, next_trading_day, previous_trading_day}
use Rattle.deferral.specs.declared.deadlines.Deadlines.{Deadlines}
use Rattle.deferral.specs.declared.opened.Opened.{Opened}
use Rattle.deferral.specs.Deadlines.{opened}
use Rattle.deferral.proofs.Later.{facts}
use Rattle.deferral.proofs.Opening.{next_found, previous_found}
use Rattle.deferral.proofs.Timely.{closes}
use Rattle.rulebook.specs.declared.record.Record.{Record}
use Rattle.rulebook.specs.Lists.{passes}
use Rattle.rulebook.specs.Notebook.{among, latest, latest_day}
use Rattle.rulebook.specs.Sound.{end_of, Within, Proper, Spaced, InTime, Timed}
use Rattle.rulebook.proofs.Held.{Spaced as Apart, among_has}
use Rattle.rulebook.proofs.Sieves.{all_two}

-- the hours of a day end within it
close_in_day : (m : Meaning) (day : ℕ) → close m day ≤ end_of day
close_in_day m day = let p = closes (m.kind day) in omega arith

noon_in_day : (m : Meaning) (day : ℕ) → noon_point m day ≤ end_of day
noon_in_day m day = omega arith

-- what lies in a day or before it lies before the end of a later one
pub within_later : (a b : ℕ) (d : Deadlines) → a ≤ b → Within a d → Within b d
within_later a b d h w =
    record { close = omega (arith, w.close); noon = omega (arith, w.noon); next = omega (arith, w.next) }

pub proper_opened : (m : Meaning) (day : ℕ) (o : Opened) → Kept m → opened m day ≡ Ok o → Proper o
proper_opened m day o law e =
    let f = facts m day (trading m day) (previous_trading_day m day) (next_trading_day m day) o e in
    let before = previous_found m day f.previous f.previous_is in
    let after = next_found m day f.next f.next_is in
    subst Proper f.is (record {
      later = after.after;
      closes = close_in_day m day;
      today = record {
        close = omega (arith, close_in_day m day, after.after);
        noon = noon_in_day m f.next;
        next = close_in_day m f.next;
      };
      before = record {
        close = omega (arith, close_in_day m f.previous, before.before);
        noon = noon_in_day m day;
        next = close_in_day m day;
      };
    })

-- of two days held, the later one is not before the trading day noted at the opening of the earlier one
pub all_apart : (ds : List Opened) → All Proper ds → Spaced ds → Apart ds
all_apart [] all s = tt
all_apart (o ∷ []) all s = (tt, tt)
all_apart (o ∷ p ∷ ps) all s =
    let rest = all_apart (p ∷ ps) all.1 s.1 in
    let later = all.1.0.later in
    (((s.0, omega arith), All-weaker _ (λ q. (q.next ≤ o.day) × (q.day < o.day)) (λ q h. (omega arith, omega arith)) ps rest.0), rest)

pub spaced_front : (n : ℕ) (ds : List Opened) → Spaced ds → Spaced (take n ds)
spaced_front zero ds s = tt
spaced_front (suc n) [] s = tt
spaced_front (suc zero) (o ∷ os) s = tt
spaced_front (suc (suc n)) (o ∷ []) s = tt
spaced_front (suc (suc n)) (o ∷ p ∷ ps) s = (s.0, spaced_front (suc n) (p ∷ ps) s.1)

-- a day that is not opened too early keeps the distance
pub spaced_opened_on : (o : Opened) (ds : List Opened) → Spaced ds → passes (λ p. ltb o.day p.next) (latest ds) ≡ false → Spaced (o ∷ ds)
spaced_opened_on o [] s e = tt
spaced_opened_on o (p ∷ ps) s e = (ltb-false o.day p.next e, s)

-- what holds of the latest day holds of every day of its number
pub at_latest : (P : Opened → Type 0) (o : Opened) (ds : List Opened) → Apart ds → latest ds ≡ Some o → P o
    → All (λ p. p.day ≡ latest_day ds → P p) ds
at_latest P o [] apart e p = tt
at_latest P o (q ∷ qs) apart e p =
    let same : o ≡ q = cc in
    ((λ f. subst P same p), All-weaker _ (λ r. r.day ≡ q.day → P r) (λ r h f. absurd (omega arith)) qs apart.0)

-- no trading day noted at an opening is after the one noted at the latest
pub nexts_upto : (o : Opened) (ds : List Opened) → All Proper ds → Apart ds → latest ds ≡ Some o → All (λ p. p.next ≤ o.next) ds
nexts_upto o [] all apart e = tt
nexts_upto o (q ∷ qs) all apart e =
    let same : q ≡ o = cc in
    let later = all.0.later in
    subst (λ (x : Opened). All (λ p. p.next ≤ x.next) (q ∷ qs)) same
    (omega arith, All-weaker _ (λ p. p.next ≤ q.next) (λ p h. omega arith) qs apart.0)

-- the deadlines of every trade held lie before the end of the trading day after the latest
pub deadlines_upto : (o : Opened) (ds : List Opened) (t : Record) → All Proper ds → Apart ds → latest ds ≡ Some o → among ds t.code.day ≡ true
    → Timed ds t → Within o.next t.deadlines
deadlines_upto o ds t all apart e held timed =
    among_has (λ x. x ≡ t.code.day → Within o.next t.deadlines) t.code.day ds
    (all_two (λ p. p.day ≡ t.code.day → InTime p t) (λ p. p.next ≤ o.next) (λ p. p.day ≡ t.code.day → Within o.next t.deadlines)
    (λ p f h g. within_later p.next o.next t.deadlines h (f g).deadlines) ds timed (nexts_upto o ds all apart e)) held refl

-- with a day opened later than all held, the trades held stay in time
pub timed_opened : (n : ℕ) (o : Opened) (ds : List Opened) (t : Record) → All (λ p. (p.next ≤ o.day) × (p.day < o.day)) ds
    → among ds t.code.day ≡ true → Timed ds t → Timed (take n (o ∷ ds)) t
timed_opened n o ds t before held timed =
    let earlier : t.code.day < o.day =
    among_has (λ x. x < o.day) t.code.day ds (All-weaker _ (λ p. p.day < o.day) (λ p h. h.1) ds before) held in
    All-take (λ p. p.day ≡ t.code.day → InTime p t) n (o ∷ ds) ((λ e. absurd (omega arith)), timed)
