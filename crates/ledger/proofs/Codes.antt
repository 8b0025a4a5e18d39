-- The codes of held days: which there are, that they are apart, and at which index each stands.
use Rattle.std.proofs.Common.{◌≡◌, ℕ, zero, suc, ◌+◌, ◌-◌, ◌^◌, ◌<◌, ◌≤◌, min, true, false, ◌||◌, eqb, ltb, List, [], ◌∷◌, ◌++◌, map, length, get_or, Some, None, Option, sym, refl, ap, ◌∙◌, arith}
use Rattle.std.specs.List.{find, range_with_len, AllByRecursion as All}
use Rattle.std.proofs.ByRecursion.{All-get_or, All-append, All-map, All-weaker, All-from_get_or}
use Rattle.std.proofs.lemmas.List.{length-append, get_or_append_left, get_or-append-add}
use Rattle.std.proofs.lemmas.List.FromFn.{length-map-range_with_len, get_or-map-range_with_len, map-range_with_len_more}
use Rattle.std.proofs.lemmas.Bool.{both_ways, and_parts, eqb-true, eqb-false, ltb-false, or_parts, cond_both}
use Rattle.std.proofs.lemmas.Bool.Decides.{nat_tests}
use Rattle.report.specs.declared.report.Code.{Code}
use Rattle.rulebook.specs.Lists.{and_then}
use Rattle.rulebook.specs.Notebook.{same_code}
use Rattle.ledger.specs.declared.held_day.HeldDay.{HeldDay}
use Rattle.ledger.specs.HeldDay.{is_day, place_in, code_in, with_next}
use Rattle.ledger.specs.Days.{index_in}
use Rattle.ledger.specs.Filed.{codes_of, all_codes, Apart, Begin, Later, Falling}

-- ---- numbers, one after another

numbers_within : (first n : ℕ) → All (λ s. (first ≤ s) × (s < first + n)) (range_with_len first n)
numbers_within first zero = tt
numbers_within first (suc n) =
    ((omega arith, omega arith), All-weaker (λ s. (first + 1 ≤ s) × (s < first + 1 + n)) (λ s. (first ≤ s) × (s < first + suc n)) (λ s h. (omega arith, omega arith)) (range_with_len (first + 1) n) (numbers_within (first + 1) n))

-- ---- codes that are the same, and that are not

pub code_from_parts : (a b : Code) → a.day ≡ b.day → a.serial ≡ b.serial → a ≡ b
code_from_parts a b d s = λ i. record { day = d i; serial = s i }

pub code_from_same : (a b : Code) → same_code a b ≡ true → a ≡ b
code_from_same a b e =
    let parts = and_parts (eqb a.day b.day) (eqb a.serial b.serial) e in
    code_from_parts a b (eqb-true a.day b.day parts.0) (eqb-true a.serial b.serial parts.1)

pub same_from_is : (a b : Code) → a ≡ b → same_code a b ≡ true
same_from_is a b e = let d : a.day ≡ b.day = ap (λ c. c.day) e in let s : a.serial ≡ b.serial = ap (λ c. c.serial) e in grind (arith, nat_tests, d, s)

-- ---- what holds of all codes

pub length_codes : (h : HeldDay) → length (codes_of h) ≡ h.taken
length_codes h = length-map-range_with_len (code_in h) 1 h.taken

get_or_codes : (h : HeldDay) (i serial : ℕ) (d : Code) → i < h.taken → 1 + i ≡ serial → get_or (codes_of h) i d ≡ code_in h serial
get_or_codes h i serial d l is = get_or-map-range_with_len (code_in h) 1 h.taken i serial d l is

pub codes_more : (h : HeldDay) → codes_of (with_next h) ≡ codes_of h ++ code_in h (h.taken + 1) ∷ []
codes_more h = map-range_with_len_more (code_in h) 1 h.taken (h.taken + 1) (omega arith)

-- a fact on the day holds of the day of each code
pub each_day_in : (P : ℕ → Type 0) (h : HeldDay) → P h.opened.day → All (λ c. P c.day) (codes_of h)
each_day_in P h p = All-map (λ c. P c.day) (code_in h) (range_with_len 1 h.taken) (All-from_get_or (λ s. P h.opened.day) (range_with_len 1 h.taken) 0 (λ i l. p))

pub each_day : (P : ℕ → Type 0) (hs : List HeldDay) → All (λ h. P h.opened.day) hs → All (λ c. P c.day) (all_codes hs)
each_day P [] p = tt
each_day P (h ∷ hs) (p, ps) = All-append (λ c. P c.day) (all_codes hs) (codes_of h) (each_day P hs ps) (each_day_in P h p)

each_serial : (h : HeldDay) → All (λ c. (1 ≤ c.serial) × (c.serial < 1 + h.taken)) (codes_of h)
each_serial h = All-map (λ c. (1 ≤ c.serial) × (c.serial < 1 + h.taken)) (code_in h) (range_with_len 1 h.taken) (numbers_within 1 h.taken)

-- ---- codes are apart

apart_numbers : (h : HeldDay) (first n : ℕ) → Apart (map (code_in h) (range_with_len first n))
apart_numbers h first zero = tt
apart_numbers h first (suc n) = (
  All-map (λ e. same_code (code_in h first) e ≡ false) (code_in h) (range_with_len (first + 1) n)
      (All-weaker (λ s. (first + 1 ≤ s) × (s < first + 1 + n)) (λ s. same_code (code_in h first) (code_in h s) ≡ false) (λ s l. grind (arith, nat_tests, l.0)) (range_with_len (first + 1) n) (numbers_within (first + 1) n)),
  apart_numbers h (first + 1) n,
)

apart_append : (cs ds : List Code) → Apart cs → Apart ds → All (λ c. All (λ e. same_code c e ≡ false) ds) cs → Apart (cs ++ ds)
apart_append [] ds a b across = b
apart_append (c ∷ cs) ds (h, a) b (x, across) = (All-append (λ e. same_code c e ≡ false) cs ds h x, apart_append cs ds a b across)

-- codes of earlier days are not a code of this day
across : (h : HeldDay) (hs : List HeldDay) → Later h.opened.day hs → All (λ c. All (λ e. same_code c e ≡ false) (codes_of h)) (all_codes hs)
across h hs later =
    All-weaker (λ c. c.day < h.opened.day) (λ c. All (λ e. same_code c e ≡ false) (codes_of h))
    (λ c l. each_day_apart c l)
    (all_codes hs) (each_day (λ day. day < h.opened.day) hs later)
  where
    each_day_apart : (c : Code) → c.day < h.opened.day → All (λ e. same_code c e ≡ false) (codes_of h)
    each_day_apart c l =
        All-weaker (λ e. e.day ≡ h.opened.day) (λ e. same_code c e ≡ false) (λ e is. grind (arith, nat_tests, is)) (codes_of h) (each_day_in (λ day. day ≡ h.opened.day) h refl)

pub codes_apart : (hs : List HeldDay) → Falling hs → Apart (all_codes hs)
codes_apart [] f = tt
codes_apart (h ∷ hs) (later, f) = apart_append (all_codes hs) (codes_of h) (codes_apart hs f) (apart_numbers h 1 h.taken) (across h hs later)

-- where codes are apart, each stands at one index
pub apart_index : (cs : List Code) (i j : ℕ) (d : Code) → Apart cs → i < length cs → j < length cs → get_or cs i d ≡ get_or cs j d → i ≡ j
apart_index [] i j d a l m e = absurd (omega arith)
apart_index (c ∷ cs) zero zero d a l m e = refl
apart_index (c ∷ cs) zero (suc j) d (h, a) l m e = absurd (both_ways (same_code c (get_or cs j d)) (All-get_or (λ x. same_code c x ≡ false) cs j d (omega arith) h) (same_from_is c (get_or cs j d) e))
apart_index (c ∷ cs) (suc i) zero d (h, a) l m e = absurd (both_ways (same_code c (get_or cs i d)) (All-get_or (λ x. same_code c x ≡ false) cs i d (omega arith) h) (same_from_is c (get_or cs i d) (sym e)))
apart_index (c ∷ cs) (suc i) (suc j) d (h, a) l m e = ap suc (apart_index cs i j d a (omega arith) (omega arith) e)

-- ---- the index of a code

-- none is the code, or the code stands there
abbrev pub Indexed : List Code → Code → Option ℕ → Type 0
Indexed cs code None = All (λ c. same_code c code ≡ false) cs
Indexed cs code (Some i) = (i < length cs) × ((d : Code) → get_or cs i d ≡ code)

indexed_front : (cs ds : List Code) (code : Code) (o : Option ℕ) → Indexed cs code o → All (λ c. same_code c code ≡ false) ds → Indexed (cs ++ ds) code o
indexed_front cs ds code None none other = All-append (λ c. same_code c code ≡ false) cs ds none other
indexed_front cs ds code (Some i) (l, is) other = (rw length-append (omega arith), λ d. get_or_append_left cs ds d i l ∙ is d)

module _ (h : HeldDay) (front : List Code) (code : Code) (day : h.opened.day ≡ code.day)
  where
    -- serials count from 1 up to how many were taken
    no_serial : (ltb code.serial 1 || ltb h.taken code.serial) ≡ true → All (λ c. same_code c code ≡ false) (codes_of h)
    no_serial e =
        All-weaker (λ c. (1 ≤ c.serial) × (c.serial < 1 + h.taken)) (λ c. same_code c code ≡ false) (λ c l. grind (arith, nat_tests, e, l.0, l.1)) (codes_of h) (each_serial h)

    has_serial : 1 ≤ code.serial → code.serial ≤ h.taken → (d : Code) → get_or (front ++ codes_of h) (length front + (code.serial - 1)) d ≡ code
    has_serial low high d =
        get_or-append-add front (codes_of h) (code.serial - 1) d
        ∙ get_or_codes h (code.serial - 1) code.serial d (omega arith) (omega arith)
        ∙ code_from_parts (code_in h code.serial) code day refl

    indexed_in : All (λ c. same_code c code ≡ false) front → h.first ≡ length front → length (front ++ codes_of h) < 2 ^ 64 → Indexed (front ++ codes_of h) code (place_in code.serial h)
    indexed_in other first small =
        cond_both (ltb code.serial 1 || ltb h.taken code.serial) None (Some (min (h.first + (code.serial - 1)) (2 ^ 64 - 1))) (Indexed (front ++ codes_of h) code)
        (λ e. All-append (λ c. same_code c code ≡ false) front (codes_of h) other (no_serial e))
        (λ e. there e)
      where
        there : (ltb code.serial 1 || ltb h.taken code.serial) ≡ false → Indexed (front ++ codes_of h) code (Some (min (h.first + (code.serial - 1)) (2 ^ 64 - 1)))
        there e =
            let parts = or_parts (ltb code.serial 1) (ltb h.taken code.serial) e in
            let low = ltb-false code.serial 1 parts.0 in
            let high = ltb-false h.taken code.serial parts.1 in
            let long : length (front ++ codes_of h) ≡ length front + h.taken = length-append front (codes_of h) ∙ ap (λ n. length front + n) (length_codes h) in
            let i : min (h.first + (code.serial - 1)) (2 ^ 64 - 1) ≡ length front + (code.serial - 1) = omega arith in
            (omega arith, λ d. ap (λ n. get_or (front ++ codes_of h) n d) i ∙ has_serial low high d)

pub indexed : (hs : List HeldDay) (code : Code) → Begin hs → Falling hs → length (all_codes hs) < 2 ^ 64 → Indexed (all_codes hs) code (index_in hs code)
indexed [] code b f small = tt
indexed (h ∷ hs) code (first, b) (later, f) small =
    cond_both (is_day code.day h) (Some h) (find (is_day code.day) hs) (λ o. Indexed (all_codes (h ∷ hs)) code (and_then o (place_in code.serial)))
    (λ e. here (eqb-true h.opened.day code.day e))
    (λ e. indexed_front (all_codes hs) (codes_of h) code (index_in hs code) (indexed hs code b f (omega (arith, length-append (all_codes hs) (codes_of h))))
    (All-weaker (λ c. c.day ≡ code.day → ⊥) (λ c. same_code c code ≡ false) (λ c other. grind (arith, nat_tests, other)) (codes_of h) (each_day_in (λ day. day ≡ code.day → ⊥) h (eqb-false h.opened.day code.day e))))
  where
    here : h.opened.day ≡ code.day → Indexed (all_codes (h ∷ hs)) code (place_in code.serial h)
    here e =
        indexed_in h (all_codes hs) code e
        (All-weaker (λ c. c.day < h.opened.day) (λ c. same_code c code ≡ false) (λ c l. grind (arith, nat_tests, l, e)) (all_codes hs) (each_day (λ day. day < h.opened.day) hs later))
        first small
