-- What holds of records that are filed in the order of their codes.
use Rattle.std.proofs.Common.{◌≡◌, ℕ, ◌+◌, ◌^◌, ◌<◌, Bool, true, false, cond, eqb, List, [], ◌∷◌, ◌++◌, map, length, get_or, take, drop, set, Some, None, filter, Option, sym, refl, ap, ◌∙◌, subst, arith}
use Rattle.std.specs.List.{find, AllByRecursion as All}
use Rattle.std.proofs.lemmas.List.Elements.{filter-append}
use Rattle.std.proofs.ByRecursion.{All-weaker, All-get_or}
use Rattle.std.proofs.lemmas.List.{append_assoc, length-append, length-map, length-drop, get_or-map, map_push, map-set, set-get_or, take_at, drop_at, take-map, drop-map, take-append-drop}
use Rattle.std.proofs.lemmas.Bool.{both_ways, eq-eqb, ne_eqb, cond-true, cond-false}
use Rattle.report.specs.declared.report.Code.{Code}
use Rattle.rulebook.specs.declared.record.Record.{Record}
use Rattle.rulebook.specs.Notebook.{Notebook, same_code, latest_day, of_day, next_code}
use Rattle.rulebook.specs.Taken.{changed}
use Rattle.ledger.specs.declared.held_day.HeldDay.{HeldDay}
use Rattle.ledger.specs.HeldDay.{code_in, has_next, with_next}
use Rattle.ledger.specs.Days.{index_in, next_in, counted}
use Rattle.ledger.specs.Filed.{codes_of, all_codes, record_codes, Apart, Filed, Finds}
use Rattle.register.proofs.Members.{kept_all, kept_none}
use Rattle.ledger.specs.Totalled.{CodesApart}
use Rattle.ledger.proofs.Changing.{changed_at, changed_none, first_at}
use Rattle.ledger.proofs.Codes.{apart_index, code_from_parts, code_from_same, same_from_is, length_codes, codes_more, each_day, each_day_in, codes_apart, Indexed, indexed}

all_unmap : {X Y : Type 0} (P : X → Type 0) (f : Y → X) (ys : List Y) → All P (map f ys) → All (λ y. P (f y)) ys
all_unmap P f [] h = tt
all_unmap P f (y ∷ ys) (h, hs) = (h, all_unmap P f ys hs)

-- ---- a code is an index

first_missing : (rs : List Record) (code : Code) → All (λ t. same_code t.code code ≡ false) rs → find (λ t. same_code t.code code) rs ≡ None
first_missing [] code h = refl
first_missing (t ∷ rs) code (h, hs) = cond-false (same_code t.code code) (Some t) (find (λ u. same_code u.code code) rs) h ∙ first_missing rs code hs

module _ (hs : List HeldDay) (rs : List Record) (filed : Filed hs rs) where
  pub records_apart : Apart (record_codes rs)
  records_apart = subst Apart (sym filed.codes) (codes_apart hs filed.falling)

  pub length_filed : length rs ≡ length (all_codes hs)
  length_filed = sym (length-map rs (λ t. t.code)) ∙ ap length filed.codes

  -- records of one code stand at one index
  pub one_index : (i j : ℕ) (d : Record) → i < length rs → j < length rs → (get_or rs i d).code ≡ (get_or rs j d).code → i ≡ j
  one_index i j d l m e =
      let long = length-map rs (λ t. t.code) in
      apart_index (record_codes rs) i j d.code records_apart (omega arith) (omega arith)
      (get_or-map (λ t. t.code) rs i d d.code l ∙ e ∙ sym (get_or-map (λ t. t.code) rs j d d.code m))

  apart : CodesApart rs
  apart i j d l m e = one_index i j d l m (code_from_same (get_or rs i d).code (get_or rs j d).code e)

  finds_from : (code : Code) (o : Option ℕ) → Indexed (all_codes hs) code o → Finds rs code o
  finds_from code None none =
      let other = all_unmap (λ c. same_code c code ≡ false) (λ t. t.code) rs (subst (All (λ c. same_code c code ≡ false)) (sym filed.codes) none) in
      record { none = other; found = first_missing rs code other; changes = λ f. changed_none code f rs other }
  finds_from code (Some i) (l, is) =
      let l' : i < length rs = omega (arith, length_filed) in
      let at : (d : Record) → (get_or rs i d).code ≡ code = λ d. sym (get_or-map (λ t. t.code) rs i d code l') ∙ ap (λ cs. get_or cs i code) filed.codes ∙ is code in
      record {
        within = l';
        has_code = at;
        found = λ d. ap (λ c. find (λ t. same_code t.code c) rs) (sym (at d)) ∙ first_at rs i d l' apart;
        changes = λ f d. ap (λ c. changed c f rs) (sym (at d)) ∙ changed_at rs i d l' f apart;
      }

  pub finds : length rs < 2 ^ 64 → (code : Code) → Finds rs code (index_in hs code)
  finds small code = finds_from code (index_in hs code) (indexed hs code filed.begin filed.falling (omega (arith, length_filed)))

  found_there : (i : ℕ) (d : Record) → i < length rs → (o : Option ℕ) → Finds rs (get_or rs i d).code o → o ≡ Some i
  found_there i d l None missing =
      let code = (get_or rs i d).code in
      absurd (both_ways (same_code code code) (All-get_or (λ t. same_code t.code code ≡ false) rs i d l missing.none) (same_from_is code code refl))
  found_there i d l (Some j) stands = ap Some (one_index j i d stands.within l (stands.has_code d))

  -- each record stands at the index of its code
  pub index_at : length rs < 2 ^ 64 → (i : ℕ) (d : Record) → i < length rs → index_in hs (get_or rs i d).code ≡ Some i
  index_at small i d l = found_there i d l (index_in hs (get_or rs i d).code) (finds small (get_or rs i d).code)

-- ---- records that are changed in place

pub filed_set : (hs : List HeldDay) (rs : List Record) (i : ℕ) (t d : Record) → i < length rs → t.code ≡ (get_or rs i d).code → Filed hs rs → Filed hs (set rs i t)
filed_set hs rs i t d l same filed =
    let is : record_codes (set rs i t) ≡ record_codes rs =
    map-set (λ u. u.code) rs i t ∙ ap (set (record_codes rs) i) (same ∙ sym (get_or-map (λ u. u.code) rs i d t.code l)) ∙ set-get_or (record_codes rs) i t.code in
    record { codes = is ∙ filed.codes; begin = filed.begin; falling = filed.falling }

changed_codes : (code : Code) (f : Record → Record) → ((t : Record) → (f t).code ≡ t.code) → (rs : List Record) → record_codes (changed code f rs) ≡ record_codes rs
changed_codes code f same [] = refl
changed_codes code f same (t ∷ rs) =
    ap (λ c. c ∷ record_codes (changed code f rs)) (kept (same_code t.code code)) ∙ ap (λ cs. t.code ∷ cs) (changed_codes code f same rs)
  where
    kept : (b : Bool) → (cond b (f t) t).code ≡ t.code
    kept true = same t
    kept false = refl

pub filed_changed : (hs : List HeldDay) (rs : List Record) (code : Code) (f : Record → Record) → ((t : Record) → (f t).code ≡ t.code) → Filed hs rs → Filed hs (changed code f rs)
filed_changed hs rs code f same filed =
    record { codes = changed_codes code f same rs ∙ filed.codes; begin = filed.begin; falling = filed.falling }

-- ---- a trade that is added

-- a test on codes that none in front passes and all behind do
pub kept_behind : (q : Code → Bool) (rs : List Record) (front behind : List Code) → record_codes rs ≡ front ++ behind → All (λ c. q c ≡ false) front → All (λ c. q c ≡ true) behind → filter (λ t. q t.code) rs ≡ drop (length front) rs
kept_behind q rs front behind is out stay =
    let n = length front in
    let p : Record → Bool = λ t. q t.code in
    let f : record_codes (take n rs) ≡ front = sym (take-map (λ t. t.code) n rs) ∙ ap (take n) is ∙ take_at front behind n refl in
    let b : record_codes (drop n rs) ≡ behind = sym (drop-map (λ t. t.code) n rs) ∙ ap (drop n) is ∙ drop_at front behind n refl in
    let out' = all_unmap (λ c. q c ≡ false) (λ t. t.code) (take n rs) (subst (All (λ c. q c ≡ false)) (sym f) out) in
    let stay' = all_unmap (λ c. q c ≡ true) (λ t. t.code) (drop n rs) (subst (All (λ c. q c ≡ true)) (sym b) stay) in
    ap (filter p) (sym (take-append-drop n rs)) ∙ filter-append p (take n rs) (drop n rs) ∙ ap (λ l. l ++ filter p (drop n rs)) (kept_none p (take n rs) out') ∙ kept_all p (drop n rs) stay'

module _ (h : HeldDay) (hs : List HeldDay) (rs : List Record) (filed : Filed (h ∷ hs) rs) where
  pub kept_latest : filter (of_day h.opened.day) rs ≡ drop h.first rs
  kept_latest =
      kept_behind (λ c. eqb c.day h.opened.day) rs (all_codes hs) (codes_of h) filed.codes
      (All-weaker (λ c. c.day < h.opened.day) (λ c. eqb c.day h.opened.day ≡ false) (λ c l. ne_eqb c.day h.opened.day (λ e. omega arith)) (all_codes hs) (each_day (λ day. day < h.opened.day) hs filed.falling.0))
      (each_day_in (λ day. eqb day h.opened.day ≡ true) h (eq-eqb h.opened.day h.opened.day refl))
      ∙ ap (λ n. drop n rs) (sym filed.begin.0)

  pub count_latest : length (filter (of_day h.opened.day) rs) ≡ h.taken
  count_latest =
      ap length kept_latest ∙ length-drop h.first rs ∙ omega (arith, length_filed (h ∷ hs) rs filed, length-append (all_codes hs) (codes_of h), length_codes h, filed.begin.0)

  pub filed_added : (t : Record) → t.code ≡ code_in h (h.taken + 1) → Filed (with_next h ∷ hs) (rs ++ t ∷ [])
  filed_added t is =
      let more : record_codes (rs ++ t ∷ []) ≡ all_codes (with_next h ∷ hs) =
      map_push (λ u. u.code) rs t
      ∙ ap (λ cs. cs ++ t.code ∷ []) filed.codes
      ∙ ap (λ c. (all_codes hs ++ codes_of h) ++ c ∷ []) is
      ∙ append_assoc (all_codes hs) (codes_of h) (code_in h (h.taken + 1) ∷ [])
      ∙ ap (λ cs. all_codes hs ++ cs) (sym (codes_more h)) in
      record { codes = more; begin = filed.begin; falling = filed.falling }

some_given : (b : Bool) (c code : Code) → cond b (Some c) None ≡ Some code → (b ≡ true) × (c ≡ code)
some_given true c code e = (refl, cc)
some_given false c code e = absurd cc

-- a trade with the next code is filed under the latest day
pub filed_next : (hs : List HeldDay) (rs : List Record) (t : Record) → next_in hs ≡ Some t.code → Filed hs rs → Filed (counted hs) (rs ++ t ∷ [])
filed_next [] rs t e filed = absurd cc
filed_next (h ∷ hs) rs t e filed =
    let given = some_given (has_next h) (code_in h (h.taken + 1)) t.code e in
    subst (λ g. Filed (g ∷ hs) (rs ++ t ∷ [])) (sym (cond-true (has_next h) (with_next h) h given.0)) (filed_added h hs rs filed t (sym given.1))

-- the next code is the notebook's
pub next_is : (nb : Notebook) (h : HeldDay) (hs : List HeldDay) → nb.days ≡ map (λ g. g.opened) (h ∷ hs) → Filed (h ∷ hs) nb.records → next_code nb ≡ code_in h (h.taken + 1)
next_is nb h hs days filed =
    let day : latest_day nb.days ≡ h.opened.day = ap latest_day days in
    let count : length (filter (of_day (latest_day nb.days)) nb.records) ≡ h.taken =
    ap (λ d. length (filter (of_day d) nb.records)) day ∙ count_latest h hs nb.records filed in
    code_from_parts (next_code nb) (code_in h (h.taken + 1)) day (ap (λ n. n + 1) count)

pub given_is_next : (nb : Notebook) (hs : List HeldDay) (code : Code) → nb.days ≡ map (λ h. h.opened) hs → Filed hs nb.records → next_in hs ≡ Some code → next_code nb ≡ code
given_is_next nb [] code days filed e = absurd cc
given_is_next nb (h ∷ hs) code days filed e = next_is nb h hs days filed ∙ (some_given (has_next h) (code_in h (h.taken + 1)) code e).1
