-- Two lists of trades that are equal, but for pairs of one code of which a fact is known.
use Rattle.std.proofs.Common.{◌≡◌, ℕ, suc, ◌+◌, Bool, true, false, cond, List, [], ◌∷◌, ◌++◌, length, Some, None, filter, Option, sym, refl, ap, ◌∙◌, subst}
use Rattle.std.specs.List.{find, AllByRecursion as All}
use Rattle.std.proofs.lemmas.Bool.{true≢false, false≢true}
use Rattle.report.specs.declared.report.Code.{Code}
use Rattle.report.specs.declared.state.Event.TheVariants.{Due}
use Rattle.rulebook.specs.declared.record.Record.{Record}
use Rattle.rulebook.specs.Notebook.{same_code}
use Rattle.rulebook.specs.Taken.{changed, met, published_from}

pub data Each (P : Code → Type 0) : List Record → List Record → Type 0 where
  end : Each P [] []
  like : {x : Record} {xs ys : List Record} → Each P xs ys → Each P (x ∷ xs) (x ∷ ys)
  apart : {x y : Record} {xs ys : List Record} → x.code ≡ y.code → P x.code → Each P xs ys → Each P (x ∷ xs) (y ∷ ys)

pub each_weaker : {P Q : Code → Type 0} {xs ys : List Record} → ((c : Code) → P c → Q c) → Each P xs ys → Each Q xs ys
each_weaker f end = end
each_weaker f (like r) = like (each_weaker f r)
each_weaker f (apart e p r) = apart e (f _ p) (each_weaker f r)

pub each_push : {P : Code → Type 0} {xs ys : List Record} (x : Record) → Each P xs ys → Each P (xs ++ x ∷ []) (ys ++ x ∷ [])
each_push x end = like end
each_push x (like r) = like (each_push x r)
each_push x (apart e p r) = apart e p (each_push x r)

pub each_push_apart : {P : Code → Type 0} {xs ys : List Record} (x y : Record) → x.code ≡ y.code → P x.code → Each P xs ys → Each P (xs ++ x ∷ []) (ys ++ y ∷ [])
each_push_apart x y e p end = apart e p end
each_push_apart x y e p (like r) = like (each_push_apart x y e p r)
each_push_apart x y e p (apart f q r) = apart f q (each_push_apart x y e p r)

-- what keeps a trade's code keeps the pairs
kept_code : (b : Bool) (f : Record → Record) (x : Record) → (f x).code ≡ x.code → (cond b (f x) x).code ≡ x.code
kept_code true f x e = e
kept_code false f x e = refl

pub each_changed : {P : Code → Type 0} {xs ys : List Record} (code : Code) (f : Record → Record) → ((x : Record) → (f x).code ≡ x.code) → Each P xs ys
    → Each P (changed code f xs) (changed code f ys)
each_changed code f k end = end
each_changed code f k (like r) = like (each_changed code f k r)
each_changed {P} code f k (apart {x = x} {y = y} e p r) =
    let i : (cond (same_code x.code code) (f x) x).code ≡ x.code = kept_code _ f x (k x) in
    let j : (cond (same_code y.code code) (f y) y).code ≡ y.code = kept_code _ f y (k y) in
    apart (i ∙ e ∙ sym j) (subst P (sym i) p) (each_changed code f k r)

pub each_published : {P : Code → Type 0} (day number : ℕ) (ds : List Record) {xs ys : List Record} → Each P xs ys → Each P (published_from day number ds xs) (published_from day number ds ys)
each_published day number [] r = r
each_published day number (d ∷ ds) r =
    each_published day (number + 1) ds (each_changed d.code (met Due (record { day = day; number = number })) (λ x. refl) r)

-- a test of the code picks pairs whole
pub each_kept : {P : Code → Type 0} {xs ys : List Record} (q : Code → Bool) → Each P xs ys → Each P (filter (λ t. q t.code) xs) (filter (λ t. q t.code) ys)
each_kept q end = end
each_kept {P} q (like {x = x} {xs = xs} {ys = ys} r) = go (q x.code) (each_kept q r) where
  go : (b : Bool) {us vs : List Record} → Each P us vs → Each P (cond b (x ∷ us) us) (cond b (x ∷ vs) vs)
  go true k = like k
  go false k = k
each_kept {P} q (apart {x = x} {y = y} {xs = xs} {ys = ys} e p r) = go (q x.code) (q y.code) (ap q e) (each_kept q r) where
  go : (b c : Bool) → b ≡ c → {us vs : List Record} → Each P us vs → Each P (cond b (x ∷ us) us) (cond c (y ∷ vs) vs)
  go true true i k = apart e p k
  go true false i k = absurd (true≢false i)
  go false true i k = absurd (false≢true i)
  go false false i k = k

pub each_length : {P : Code → Type 0} {xs ys : List Record} → Each P xs ys → length xs ≡ length ys
each_length end = refl
each_length (like r) = ap suc (each_length r)
each_length (apart e p r) = ap suc (each_length r)

-- a test that no trade of an unlike pair passes picks the same trades
pub same_kept : {P : Code → Type 0} {xs ys : List Record} (q : Record → Bool) → Each P xs ys → All (λ t. P t.code → q t ≡ false) xs → All (λ t. P t.code → q t ≡ false) ys
    → filter q xs ≡ filter q ys
same_kept q end u v = refl
same_kept q (like {x = x} r) u v = ap (λ (ts : List Record). cond (q x) (x ∷ ts) ts) (same_kept q r u.1 v.1)
same_kept {P} q (apart {x = x} {y = y} {xs = xs} {ys = ys} e p r) u v =
    ap (λ (b : Bool). cond b (x ∷ filter q xs) (filter q xs)) (u.0 p)
    ∙ same_kept q r u.1 v.1
    ∙ sym (ap (λ (b : Bool). cond b (y ∷ filter q ys) (filter q ys)) (v.0 (subst P e p)))

-- what two searches by code find
pub data Found (P : Code → Type 0) (R : Record → Type 0) (S : Record → Type 0) : Option Record → Option Record → Type 0 where
  neither : Found P R S None None
  one : {x : Record} → R x → S x → Found P R S (Some x) (Some x)
  two : {x y : Record} → R x → S y → x.code ≡ y.code → P x.code → P y.code → Found P R S (Some x) (Some y)

pub each_found : {P : Code → Type 0} {R S : Record → Type 0} {xs ys : List Record} (q : Code → Bool) → Each P xs ys → All R xs → All S ys
    → Found P R S (find (λ t. q t.code) xs) (find (λ t. q t.code) ys)
each_found q end u v = neither
each_found {P} {R} {S} q (like {x = x} {xs = xs} {ys = ys} r) u v = go (q x.code) (each_found q r u.1 v.1) where
  go : (b : Bool) {s t : Option Record} → Found P R S s t → Found P R S (cond b (Some x) s) (cond b (Some x) t)
  go true k = one u.0 v.0
  go false k = k
each_found {P} {R} {S} q (apart {x = x} {y = y} {xs = xs} {ys = ys} e p r) u v = go (q x.code) (q y.code) (ap q e) (each_found q r u.1 v.1) where
  go : (b c : Bool) → b ≡ c → {s t : Option Record} → Found P R S s t → Found P R S (cond b (Some x) s) (cond c (Some y) t)
  go true true i k = two u.0 v.0 e p (subst P e p)
  go true false i k = absurd (true≢false i)
  go false true i k = absurd (false≢true i)
  go false false i k = k
