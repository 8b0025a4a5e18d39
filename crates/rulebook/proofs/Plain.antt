-- A sheet's figures depend on no more than the codes and reports of the trades that it counts.
use Rattle.std.proofs.Common.{◌≡◌, ℕ, ◌+◌, ◌*◌, Bool, cond, List, [], ◌∷◌, map, length, Some, None, fold, Option, sym, refl, ap, ◌∙◌, rules}
use Rattle.std.proofs.lemmas.List.{length-map}
use Rattle.report.specs.declared.state.State.TheVariants.{Waiting}
use Rattle.report.specs.Published.{makes_prices}
use Rattle.rulebook.specs.declared.record.Record.{Record}
use Rattle.rulebook.specs.Lists.{first_by, earlier_of, and_then}
use Rattle.rulebook.specs.Sheets.{figures_of, priced, price_of, executed_before, cheaper}
use Rattle.rulebook.proofs.Sieves.{kept_map}

-- a trade's code and report, all else being as in another
abbrev pub plain : Record → Record → Record
plain t u =
    record {
      code = u.code;
      report = u.report;
      deadlines = t.deadlines;
      moment = t.moment;
      amended = t.amended;
      state = Waiting;
      place = t.place;
    }

folded_map : {X Y Z : Type 0} (g : Z → Y → Z) (f : X → Y) (a : Z) (xs : List X) → fold g a (map f xs) ≡ fold (λ b x. g b (f x)) a xs
folded_map g f a [] = refl
folded_map g f a (x ∷ xs) = folded_map g f (g a (f x)) xs

first_map : {X Y : Type 0} (f : X → Y) (before : Y → Y → Bool) (xs : List X)
    → first_by before (map f xs) ≡ and_then (first_by (λ x y. before (f x) (f y)) xs) (λ x. Some (f x))
first_map f before [] = refl
first_map {X = X} {Y = Y} f before (x ∷ xs) =
    ap (λ (o : Option Y). Some (earlier_of before (f x) o)) (first_map f before xs) ∙ ap Some (earlier (first_by (λ y z. before (f y) (f z)) xs))
  where
    either : (b : Bool) (y : X) → cond b (f y) (f x) ≡ f (cond b y x)
    either b y = search rules

    earlier : (o : Option X) → earlier_of before (f x) (and_then o (λ y. Some (f y))) ≡ f (earlier_of (λ y z. before (f y) (f z)) x o)
    earlier None = refl
    earlier (Some y) = either (before (f y) (f x)) y

price_plain : (t : Record) (o : Option Record) → price_of (and_then o (λ u. Some (plain t u))) ≡ price_of o
price_plain t o = search rules

first_price : (t : Record) (before : Record → Record → Bool) (ts : List Record)
    → price_of (first_by before (priced (map (plain t) ts))) ≡ price_of (first_by (λ u v. before (plain t u) (plain t v)) (priced ts))
first_price t before ts =
    ap (λ (x : List Record). price_of (first_by before x)) (kept_map (λ u. makes_prices u.report) (plain t) ts)
    ∙ ap price_of (first_map (plain t) before (priced ts)) ∙ price_plain t (first_by (λ u v. before (plain t u) (plain t v)) (priced ts))

pub plain_figures : (t : Record) (ts : List Record) → figures_of (map (plain t) ts) ≡ figures_of ts
plain_figures t ts =
    let a : length (map (plain t) ts) ≡ length ts = length-map ts (plain t) in
    let b = folded_map (λ (n : ℕ) (u : Record). n + u.report.quantity) (plain t) 0 ts in
    let c = folded_map (λ (n : ℕ) (u : Record). n + u.report.price * u.report.quantity) (plain t) 0 ts in
    let o = first_price t executed_before ts in
    let h = first_price t (λ u v. cheaper v u) ts in
    let l = first_price t cheaper ts in
    let e = first_price t (λ u v. executed_before v u) ts in
    cc

pub same_figures : (t : Record) (ts us : List Record) → map (plain t) ts ≡ map (plain t) us → figures_of ts ≡ figures_of us
same_figures t ts us e = sym (plain_figures t ts) ∙ ap figures_of e ∙ plain_figures t us
