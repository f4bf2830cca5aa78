-- What is laid for the uses of a value, and for one unit of a block, keeps the balance.
use Rattle.std.proofs.Common.{◌≡◌, ◌≢◌, ℕ, zero, suc, ◌+◌, ◌<◌, ◌≤◌, ◌^◌, List, [], ◌∷◌, ◌++◌, length, get_or, true, false, Option, Some, None, refl, sym, ap, ◌∙◌, subst, inl, inr, arith, length-append}
use Rattle.std.specs.Prelude.{All, IsTrue, slice_get, set}
use Rattle.std.proofs.lemmas.Bool.{cases_eq}
use Rattle.std.proofs.lemmas.List.{length-set}
use Rattle.std.proofs.lemmas.List.Elements.{All-nil, All-cons, All-head, All-tail, All-append}
use Rattle.ir.specs.Shapes.{Shape, IsOfWidth}
use Rattle.net_types.specs.declared.net.Place.{Place}
use Rattle.net_types.specs.declared.net.Net.{Net}
use Rattle.net_types.specs.declared.net.Unit.{Unit as Kind}
use Rattle.net_types.specs.declared.net.Unit.TheVariants.{Fork, Sink}
use Rattle.net_types.specs.Nets.{at}
use Rattle.net_types.specs.Tables.{ins, outs, spots}
use Rattle.net_types.specs.Rules.{width_fits, is_width}
use Rattle.circuit_build.specs.declared.draft.Draft.{Draft}
use Rattle.circuit_build.specs.declared.draft.End.{End}
use Rattle.circuit_build.specs.declared.draft.Queue.{Queue}
use Rattle.circuit_build.specs.Drafts.{plus, next, end_or, end_of, with_unit, fed, uses_of_next, spread, spread_end, defined, undefined, after_place, control_forked, triggered, buffered, used, copied, copy_of}
use Rattle.circuit_build.specs.Steps.{through_queue}
use Rattle.circuit_build.proofs.CountBooks.{Weight, Sum, row, Books, chan, moved, lay_unit, lay_chan}
use Rattle.circuit_build.proofs.Remains.{one_if, one_own, one_other, of_width_below}

-- ---- ends of values, each as often as it is left

-- n places from one on, as data
abbrev pub run : Weight → Place → ℕ → ℕ → ℕ
run f p w zero = 0
run f p w (suc n) = f p w false + run f (after_place p) w n

abbrev pub end_run : Weight → Option End → ℕ → ℕ
end_run f None n = 0
end_run f (Some e) n = run f e.place e.width n

abbrev pub ends : Weight → (ℕ → ℕ) → List (Option End) → ℕ
ends f L [] = 0
ends f L (e ∷ es) = end_run f e (L 0) + ends f (λ v. L (suc v)) es

abbrev pub WideIf : Option ℕ → Type 0
WideIf None = Unit {0}
WideIf (Some w) = IsTrue (is_width w)

pub wide_at : (ws : Shape) (v w : ℕ) → All WideIf ws → IsOfWidth ws v w → IsTrue (is_width w)
wide_at [] v w a h = absurd (cc)
wide_at (x ∷ ws) zero w a h = let e : x ≡ Some w = cc in subst WideIf e (All-head WideIf x ws a)
wide_at (x ∷ ws) (suc v) w a h = wide_at ws v w (All-tail WideIf x ws a) h

-- an end of this width carries the value
pub record Found (es : List (Option End)) (v w : ℕ) : Type 0 where
  pub here : slice_get es v ≡ Some (Some (end_of es v))
  pub width : (end_of es v).width ≡ w

pub found_of : (es : List (Option End)) (v w : ℕ) (e : End) → slice_get es v ≡ Some (Some e) → e.width ≡ w → Found es v w
found_of es v w e h i = record { here = h ∙ ap (λ o. Some (Some (end_or o))) (sym h); width = ap (λ o. (end_or o).width) h ∙ i }

-- each value of the shape that is left has an end
pub record Fitting (es : List (Option End)) (ws : Shape) (L : ℕ → ℕ) : Type 0 where
  pub long : length es ≡ length ws
  pub found : (v w : ℕ) → IsOfWidth ws v w → 0 < L v → Found es v w

pub ends_same : (f : Weight) (es : List (Option End)) (L M : ℕ → ℕ) → ((v : ℕ) → L v ≡ M v) → ends f L es ≡ ends f M es
ends_same f [] L M h = refl
ends_same f (e ∷ es) L M h = let a = ap (λ n. end_run f e n) (h 0) in let i = ends_same f es (λ v. L (suc v)) (λ v. M (suc v)) (λ v. h (suc v)) in omega (arith, a, i)

pub ends_none : (f : Weight) (es : List (Option End)) (L : ℕ → ℕ) → ((v : ℕ) → v < length es → L v ≡ 0) → ends f L es ≡ 0
ends_none f [] L h = refl
ends_none f (None ∷ es) L h = let i = ends_none f es (λ v. L (suc v)) (λ v l. h (suc v) (omega arith)) in omega (arith, i)
ends_none f (Some e ∷ es) L h = let a = ap (λ n. run f e.place e.width n) (h 0 (omega arith)) in let i = ends_none f es (λ v. L (suc v)) (λ v l. h (suc v) (omega arith)) in omega (arith, a, i)

ends_set : (f : Weight) (es : List (Option End)) (v : ℕ) (e : End) (L M : ℕ → ℕ) → slice_get es v ≡ Some (Some e) → L v ≡ suc (M v) → ((u : ℕ) → u ≢ v → L u ≡ M u)
    → ends f L es ≡ f e.place e.width false + ends f M (set es v (Some (record { place = after_place e.place; width = e.width })))
ends_set f [] v e L M h s t = absurd (cc)
ends_set f (x ∷ es) zero e L M h s t =
    let z : x ≡ Some e = cc in
    let a = ap (λ o. end_run f o (L 0)) z in
    let b = ap (λ n. run f e.place e.width n) s in
    let c = ends_same f es (λ v. L (suc v)) (λ v. M (suc v)) (λ v. t (suc v) (λ n. absurd (omega (arith, n)))) in
    omega (arith, a, b, c)
ends_set f (x ∷ es) (suc v) e L M h s t =
    let a = ap (λ n. end_run f x n) (t 0 (λ n. absurd (omega (arith, n)))) in
    let i = ends_set f es v e (λ v. L (suc v)) (λ v. M (suc v)) h s (λ u n. t (suc u) (λ m. n (omega (arith, m)))) in
    omega (arith, a, i)

pub ends_used : (f : Weight) (es : List (Option End)) (v : ℕ) (L M : ℕ → ℕ) → slice_get es v ≡ Some (Some (end_of es v)) → ((u : ℕ) → L u ≡ M u + one_if v u) → ends f L es ≡ f (end_of es v).place (end_of es v).width false + ends f M (used v es)
ends_used f es v L M h t =
    ends_set f es v (end_of es v) L M h (let a = t v in let b = one_own v in omega (arith, a, b)) (λ u n. let a = t u in let b = one_other v u n in omega (arith, a, b))

pub ends_more : (f : Weight) (es : List (Option End)) (x : Option End) (L : ℕ → ℕ) → ends f L (es ++ x ∷ []) ≡ ends f L es + end_run f x (L (length es))
ends_more f [] x L = omega arith
ends_more f (y ∷ es) x L = let i = ends_more f es x (λ v. L (suc v)) in omega (arith, i)

set_here : {A : Type 0} (xs : List A) (v : ℕ) (x y : A) → slice_get xs v ≡ Some y → slice_get (set xs v x) v ≡ Some x
set_here [] v x y h = absurd (cc)
set_here (z ∷ xs) zero x y h = refl
set_here (z ∷ xs) (suc v) x y h = set_here xs v x y h

set_there : {A : Type 0} (xs : List A) (v u : ℕ) (x : A) → u ≢ v → slice_get (set xs v x) u ≡ slice_get xs u
set_there [] v u x n = refl
set_there (z ∷ xs) zero zero x n = absurd (n refl)
set_there (z ∷ xs) zero (suc u) x n = refl
set_there (z ∷ xs) (suc v) zero x n = refl
set_there (z ∷ xs) (suc v) (suc u) x n = set_there xs v u x (λ e. n (ap suc e))

pub found_used : (es : List (Option End)) (v u w : ℕ) → slice_get es v ≡ Some (Some (end_of es v)) → Found es u w → Found (used v es) u w
found_used es v u w h i =
    let x : End = record { place = after_place (end_of es v).place; width = (end_of es v).width } in
    elim (cases_eq u v) [
      | inl e ↦ found_of (used v es) u w x (ap (λ n. slice_get (used v es) n) e ∙ set_here es v (Some x) (Some (end_of es v)) h) (ap (λ n. (end_of es n).width) (sym e) ∙ i.width)
      | inr n ↦ found_of (used v es) u w (end_of es u) (set_there es v u (Some x) n ∙ i.here) i.width
    ]

pub used_length : (v : ℕ) (es : List (Option End)) → length (used v es) ≡ length es
used_length v es = length-set es v (Some (record { place = after_place (end_of es v).place; width = (end_of es v).width }))

pub fitting_used : (es : List (Option End)) (ws : Shape) (v : ℕ) (L M : ℕ → ℕ) → Fitting es ws L → slice_get es v ≡ Some (Some (end_of es v)) → ((u : ℕ) → L u ≡ M u + one_if v u) → Fitting (used v es) ws M
fitting_used es ws v L M h e t = record { long = used_length v es ∙ h.long; found = λ u w i l. found_used es v u w e (h.found u w i (let a = t u in omega (arith, a, l))) }

fit_more : (es : List (Option End)) (ws : Shape) (x : Option End) (o : Option ℕ) (L : ℕ → ℕ) → length es ≡ length ws → ((v w : ℕ) → IsOfWidth ws v w → 0 < L v → Found es v w) → ((w : ℕ) → o ≡ Some w → 0 < L (length es) → Found (x ∷ []) 0 w)
    → (v w : ℕ) → IsOfWidth (ws ++ o ∷ []) v w → 0 < L v → Found (es ++ x ∷ []) v w
fit_more [] [] x o L l h k zero w i s = k w (cc) s
fit_more [] [] x o L l h k (suc v) w i s = absurd (cc)
fit_more [] (y ∷ ws) x o L l h k v w i s = absurd (omega arith)
fit_more (e ∷ es) [] x o L l h k v w i s = absurd (omega arith)
fit_more (e ∷ es) (y ∷ ws) x o L l h k zero w i s = let j = h 0 w i s in record { here = j.here; width = j.width }
fit_more (e ∷ es) (y ∷ ws) x o L l h k (suc v) w i s =
    let j = fit_more es ws x o (λ v. L (suc v)) (omega arith) (λ v w i s. let j = h (suc v) w i s in record { here = j.here; width = j.width }) k v w i s in record { here = j.here; width = j.width }

pub fitting_more : (es : List (Option End)) (ws : Shape) (x : Option End) (o : Option ℕ) (L : ℕ → ℕ) → Fitting es ws L → ((w : ℕ) → o ≡ Some w → 0 < L (length es) → Found (x ∷ []) 0 w) → Fitting (es ++ x ∷ []) (ws ++ o ∷ []) L
fitting_more es ws x o L h k = record {
  long = let a = length-append es (x ∷ []) in let b = length-append ws (o ∷ []) in let c = h.long in omega (arith, a, b, c);
  found = fit_more es ws x o L h.long h.found k;
}

-- ---- a block under construction: the ends of the control token, of its copies and of the values are open, and rest

pub record Open (net : Net) (d : Draft) (owe rest : Sum) (ws : Shape) (L : ℕ → ℕ) (k : ℕ) : Type 0 where
  pub books : Books net d.units d.chans owe (λ f. f d.control 32 true + run f d.trigger 32 k + ends f L d.ends + rest f)
  pub fits : Fitting d.ends ws L
  pub wide : All WideIf ws
  pub ahead : (v : ℕ) → length ws ≤ v → L v ≡ get_or d.uses v 0
  pub few : (v : ℕ) → get_or d.uses v 0 < 2 ^ 32

pub shifted : {net : Net} {d : Draft} {o r : Sum} {ws : Shape} {L : ℕ → ℕ} {k : ℕ} (o' r' : Sum) → Open net d o r ws L k → ((f : Weight) → o f ≡ o' f) → ((f : Weight) → r f ≡ r' f) → Open net d o' r' ws L k
shifted {net} {d} {o} {r} {ws} {L} {k} o' r' h s t = record {
  books = moved o' (λ f. f d.control 32 true + run f d.trigger 32 k + ends f L d.ends + r' f) h.books s (λ f. let x = t f in omega (arith, x));
  fits = h.fits;
  wide = h.wide;
  ahead = h.ahead;
  few = h.few;
}

-- the same is left, said otherwise
pub leaves : {net : Net} {d : Draft} {o r : Sum} {ws : Shape} {L : ℕ → ℕ} {k : ℕ} (M : ℕ → ℕ) → Open net d o r ws L k → ((v : ℕ) → L v ≡ M v) → Open net d o r ws M k
leaves {net} {d} {o} {r} {ws} {L} {k} M h e = record {
  books = moved o (λ f. f d.control 32 true + run f d.trigger 32 k + ends f M d.ends + r f) h.books (λ f. refl) (λ f. let x = ends_same f d.ends L M e in omega (arith, x));
  fits = record { long = h.fits.long; found = λ v w i s. h.fits.found v w i (let x = e v in omega (arith, x, s)) };
  wide = h.wide;
  ahead = λ v l. sym (e v) ∙ h.ahead v l;
  few = h.few;
}

pub triggered_open : {net : Net} {d : Draft} {o r : Sum} {ws : Shape} {L : ℕ → ℕ} {k : ℕ} → Open net d o r ws L (suc k) → Open net (triggered d) o (λ f. f d.trigger 32 false + r f) ws L k
triggered_open {net} {d} {o} {r} {ws} {L} {k} h = record {
  books = moved o (λ f. f d.control 32 true + run f (after_place d.trigger) 32 k + ends f L d.ends + (f d.trigger 32 false + r f)) h.books (λ f. refl) (λ f. omega arith);
  fits = h.fits;
  wide = h.wide;
  ahead = h.ahead;
  few = h.few;
}

pub buffered_open : {net : Net} {d : Draft} {o r : Sum} {ws : Shape} {L : ℕ → ℕ} {k : ℕ} → Open net d o r ws L k → Open net (buffered d) o r ws L k
buffered_open {net} {d} {o} {r} {ws} {L} {k} h =
    let n = next d in
    let b = lay_unit (Fork 32 1) true (λ f. o f + f (at n 0) 32 true) (λ f. f d.control 32 true + run f d.trigger 32 k + ends f L d.ends + r f + f (at n 0) 32 true) h.books refl (λ f. omega arith) (λ f. omega arith) in
    record {
      books = lay_chan d.control (at n 0) 32 true o (λ f. f (at n 0) 32 true + run f d.trigger 32 k + ends f L d.ends + r f) b (λ f. omega arith) (λ f. omega arith);
      fits = h.fits;
      wide = h.wide;
      ahead = h.ahead;
      few = h.few;
    }

-- places in a row are those of the table
pub run_row : (f : Weight) (u p w k : ℕ) → p + k < 2 ^ 32 → run f (at u p) w k ≡ row f u (spots p w false k)
run_row f u p w zero few = refl
run_row f u p w (suc k) few =
    let z : plus p 1 ≡ suc p = omega (arith, few) in
    let i = run_row f u (suc p) w k (omega (arith, few)) in
    let y = ap (λ n. run f (at u n) w k) z in
    omega (arith, i, y)

-- the outputs of a fork of control
pub fork_outs : (net : Net) (f : Weight) (u n k : ℕ) → n ≡ suc k → k + 2 < 2 ^ 32 → row f u (outs net true (Fork 32 n)) ≡ f (at u 0) 32 true + run f (at u 1) 32 k
fork_outs net f u n k e few = let x = ap (λ m. row f u (outs net true (Fork 32 m))) e in let y = run_row f u 1 32 k (omega (arith, few)) in omega (arith, x, y)

-- copies of the control token, where none are left
pub forked_open : {net : Net} {d : Draft} {o r : Sum} {ws : Shape} {L : ℕ → ℕ} (k : ℕ) → k + 2 < 2 ^ 32 → Open net d o r ws L 0 → Open net (control_forked k d) o r ws L k
forked_open zero few h = h
forked_open {net} {d} {o} {r} {ws} {L} (suc k) few h =
    let n = next d in
    let m = plus (suc k) 1 in
    let b = lay_unit (Fork 32 m) true (λ f. o f + f (at n 0) 32 true) (λ f. f d.control 32 true + ends f L d.ends + r f + f (at n 0) 32 true + run f (at n 1) 32 (suc k)) h.books refl (λ f. omega arith)
    (λ f. let x = fork_outs net f n m (suc k) (omega (arith, few)) (omega (arith, few)) in omega (arith, x)) in
    record {
      books = lay_chan d.control (at n 0) 32 true o (λ f. f (at n 0) 32 true + run f (at n 1) 32 (suc k) + ends f L d.ends + r f) b (λ f. omega arith) (λ f. omega arith);
      fits = h.fits;
      wide = h.wide;
      ahead = h.ahead;
      few = h.few;
    }

-- a place of a queue through which the control token passes is open and waiting no more
pub through_open : {net : Net} {d : Draft} {o r : Sum} {ws : Shape} {L : ℕ → ℕ} {k : ℕ} (q : Queue) (p : ℕ) (o' r' : Sum) → Open net d o r ws L k → ((f : Weight) → o f ≡ f (at q.unit p) 32 true + o' f) → ((f : Weight) → r f ≡ f (at q.unit p) 32 true + r' f)
    → Open net (through_queue q p d) o' r' ws L k
through_open {net} {d} {o} {r} {ws} {L} {k} q p o' r' h s t = record {
  books = lay_chan d.control (at q.unit p) 32 true o' (λ f. f (at q.unit p) 32 true + run f d.trigger 32 k + ends f L d.ends + r' f) h.books s (λ f. let x = t f in omega (arith, x));
  fits = h.fits;
  wide = h.wide;
  ahead = h.ahead;
  few = h.few;
}

-- ---- a use of a value

pub copy_width : {net : Net} {d : Draft} {o r : Sum} {ws : Shape} {L : ℕ → ℕ} {k : ℕ} (v w : ℕ) (M : ℕ → ℕ) → Open net d o r ws L k → IsOfWidth ws v w → ((u : ℕ) → L u ≡ M u + one_if v u) → (copy_of v d).width ≡ w
copy_width {net} {d} v w M h i t = let a = t v in let b = one_own v in let e = h.fits.found v w i (omega (arith, a, b)) in e.width

pub copied_open : {net : Net} {d : Draft} {o r : Sum} {ws : Shape} {L : ℕ → ℕ} {k : ℕ} (v w : ℕ) (M : ℕ → ℕ) → Open net d o r ws L k → IsOfWidth ws v w → ((u : ℕ) → L u ≡ M u + one_if v u) → Open net (copied v d) o (λ f. f (copy_of v d).place w false + r f) ws M k
copied_open {net} {d} {o} {r} {ws} {L} {k} v w M h i t =
    let a = t v in
    let b = one_own v in
    let e = h.fits.found v w i (omega (arith, a, b)) in
    let l = of_width_below ws v w i in
    record {
      books = moved o (λ f. f d.control 32 true + run f d.trigger 32 k + ends f M (used v d.ends) + (f (copy_of v d).place w false + r f)) h.books (λ f. refl)
          (λ f. let x = ends_used f d.ends v L M e.here t in let y = ap (λ z. f (copy_of v d).place z false) e.width in omega (arith, x, y));
      fits = fitting_used d.ends ws v L M h.fits e.here t;
      wide = h.wide;
      ahead = λ u m. (let x = t u in let y = one_other v u (λ z. absurd (omega (arith, z, m, l))) in let z : M u ≡ L u = omega (arith, x, y) in z) ∙ h.ahead u m;
      few = h.few;
    }

-- ---- units

pub fed_books : {net : Net} {us : List Kind} {cs : List _} {o h : Sum} (x : End) (u p w : ℕ) (o' h' : Sum) → Books net us cs o h → x.width ≡ w → ((f : Weight) → o f ≡ f (at u p) w false + o' f) → ((f : Weight) → h f ≡ f x.place w false + h' f)
    → Books net us (cs ++ chan x.place (at u p) x.width false ∷ []) o' h'
fed_books x u p w o' h' b e s t =
    lay_chan x.place (at u p) x.width false o' h' b (λ f. let y = s f in let z = ap (λ v. f (at u p) v false) e in omega (arith, y, z)) (λ f. let y = t f in let z = ap (λ v. f x.place v false) e in omega (arith, y, z))

-- an output is spread over n uses
pub spread_books : {net : Net} {o h : Sum} (d : Draft) (x : End) (n : ℕ) (h' : Sum) → Books net d.units d.chans o h → IsTrue (is_width x.width) → n < 2 ^ 32 → ((f : Weight) → h f ≡ f x.place x.width false + h' f)
    → Books net (spread x n d).units (spread x n d).chans o (λ f. end_run f (spread_end x n d) n + h' f)
spread_books {net} {o} {h} d x zero h' b fits few t =
    let n = next d in
    let s = lay_unit (Sink x.width) false (λ f. f (at n 0) x.width false + o f) h b fits (λ f. omega arith) (λ f. omega arith) in
    fed_books x n 0 x.width o (λ f. 0 + h' f) s refl (λ f. refl) (λ f. let y = t f in omega (arith, y))
spread_books {net} {o} {h} d x (suc zero) h' b fits few t = moved o (λ f. f x.place x.width false + 0 + h' f) b (λ f. refl) (λ f. let y = t f in omega (arith, y))
spread_books {net} {o} {h} d x (suc (suc n)) h' b fits few t =
    let u = next d in
    let w = x.width in
    let s = lay_unit (Fork w (suc (suc n))) false (λ f. f (at u 0) w false + o f) (λ f. h f + run f (at u 0) w (suc (suc n))) b fits (λ f. omega arith)
    (λ f. let y = run_row f u 0 w (suc (suc n)) (omega (arith, few)) in omega (arith, y)) in
    fed_books x u 0 w o (λ f. run f (at u 0) w (suc (suc n)) + h' f) s refl (λ f. refl) (λ f. let y = t f in omega (arith, y))

pub spread_found : (d : Draft) (x : End) (n w : ℕ) → x.width ≡ w → 0 < n → Found (spread_end x n d ∷ []) 0 w
spread_found d x zero w e s = absurd (omega (arith, s))
spread_found d x (suc zero) w e s = record { here = refl; width = e }
spread_found d x (suc (suc n)) w e s = record { here = refl; width = e }

-- what keeps the ends
pub record SameEnds (d e : Draft) : Type 0 where
  pub control : e.control ≡ d.control
  pub trigger : e.trigger ≡ d.trigger
  pub ends : e.ends ≡ d.ends
  pub uses : e.uses ≡ d.uses

pub spread_ends : (x : End) (n : ℕ) (d : Draft) → SameEnds d (spread x n d)
spread_ends x zero d = record { control = refl; trigger = refl; ends = refl; uses = refl }
spread_ends x (suc zero) d = record { control = refl; trigger = refl; ends = refl; uses = refl }
spread_ends x (suc (suc n)) d = record { control = refl; trigger = refl; ends = refl; uses = refl }

-- the next value stands at an open place
pub defined_open : {net : Net} {d : Draft} {o r : Sum} {ws : Shape} {L : ℕ → ℕ} {k : ℕ} (p : Place) (w : ℕ) → Open net d o (λ f. f p w false + r f) ws L k → IsTrue (is_width w) → Open net (defined p w d) o r (ws ++ Some w ∷ []) L k
defined_open {net} {d} {o} {r} {ws} {L} {k} p w h wide =
    let x : End = record { place = p; width = w } in
    let n = uses_of_next d in
    let e = spread x n d in
    let g = defined p w d in
    let y = spread_end x n d in
    let s = spread_ends x n d in
    let is : L (length d.ends) ≡ n = h.ahead (length d.ends) (let l = h.fits.long in omega (arith, l)) in
    let b = spread_books d x n (λ f. f d.control 32 true + run f d.trigger 32 k + ends f L d.ends + r f) h.books wide (h.few (length d.ends)) (λ f. omega arith) in
    let fit = fitting_more d.ends ws y (Some w) L h.fits (λ v i t. spread_found d x n v (cc) (omega (arith, is, t))) in
    record {
      books = moved o (λ f. f g.control 32 true + run f g.trigger 32 k + ends f L g.ends + r f) b (λ f. refl)
          (λ f. let a1 = ap (λ q. f q 32 true) s.control in
          let a2 = ap (λ q. run f q 32 k) s.trigger in
          let a3 = ap (λ l. ends f L (l ++ y ∷ [])) s.ends in
          let a4 = ends_more f d.ends y L in
          let a5 = ap (λ c. end_run f y c) is in
          omega (arith, a1, a2, a3, a4, a5));
      fits = subst (λ l. Fitting (l ++ y ∷ []) (ws ++ Some w ∷ []) L) (sym s.ends) fit;
      wide = All-append WideIf ws (Some w ∷ []) h.wide (All-cons WideIf (Some w) [] wide (All-nil WideIf));
      ahead = λ v l. h.ahead v (let a = length-append ws (Some w ∷ []) in omega (arith, a, l)) ∙ ap (λ t. get_or t v 0) (sym s.uses);
      few = λ v. let q = ap (λ t. get_or t v 0) s.uses in let z = h.few v in omega (arith, q, z);
    }

-- the next step has no value, or one that is not used
pub none_more : {net : Net} {d : Draft} {o r : Sum} {ws : Shape} {L : ℕ → ℕ} {k : ℕ} (v : Option ℕ) → Open net d o r ws L k → WideIf v → ((w : ℕ) → v ≡ Some w → L (length ws) ≡ 0) → Open net (undefined d) o r (ws ++ v ∷ []) L k
none_more {net} {d} {o} {r} {ws} {L} {k} v h wide none = record {
  books = moved o (λ f. f d.control 32 true + run f d.trigger 32 k + ends f L (d.ends ++ None ∷ []) + r f) h.books (λ f. refl) (λ f. let z = ends_more f d.ends None L in omega (arith, z));
  fits = fitting_more d.ends ws None v L h.fits (λ w e s. absurd (let l = ap (λ n. L n) h.fits.long in let z = none w e in omega (arith, l, z, s)));
  wide = All-append WideIf ws (v ∷ []) h.wide (All-cons WideIf v [] wide (All-nil WideIf));
  ahead = λ u l. h.ahead u (let a = length-append ws (v ∷ []) in omega (arith, a, l));
  few = h.few;
}

-- a unit of one input, of two, and of three
pub unit1 : {net : Net} {d : Draft} {o r : Sum} {ws : Shape} {L : ℕ → ℕ} {k : ℕ} (u : Kind) (x : End) (v w : ℕ) → Open net d o (λ f. f x.place v false + r f) ws L k → x.width ≡ v → IsTrue (width_fits u) → IsTrue (is_width w)
    → ((f : Weight) → row f (next d) (ins net false u) ≡ f (at (next d) 0) v false) → ((f : Weight) → row f (next d) (outs net false u) ≡ f (at (next d) 0) w false)
    → Open net (defined (at (next d) 0) w (fed x (next d) 0 (with_unit u d))) o r (ws ++ Some w ∷ []) L k
unit1 {net} {d} {o} {r} {ws} {L} {k} u x v w h e i j s t =
    let n = next d in
    let b = lay_unit u false (λ f. f (at n 0) v false + o f) (λ f. f d.control 32 true + run f d.trigger 32 k + ends f L d.ends + (f x.place v false + r f) + f (at n 0) w false) h.books i (λ f. let y = s f in omega (arith, y)) (λ f. let y = t f in omega (arith, y)) in
    let c = fed_books x n 0 v o (λ f. f d.control 32 true + run f d.trigger 32 k + ends f L d.ends + (f (at n 0) w false + r f)) b e (λ f. refl) (λ f. omega arith) in
    let g : Open net (fed x n 0 (with_unit u d)) o (λ f. f (at n 0) w false + r f) ws L k = record { books = c; fits = h.fits; wide = h.wide; ahead = h.ahead; few = h.few } in
    defined_open (at n 0) w g j

pub unit2 : {net : Net} {d : Draft} {o r : Sum} {ws : Shape} {L : ℕ → ℕ} {k : ℕ} (u : Kind) (x y : End) (v w : ℕ) → Open net d o (λ f. f y.place v false + (f x.place v false + r f)) ws L k → x.width ≡ v → y.width ≡ v → IsTrue (width_fits u) → IsTrue (is_width w)
    → ((f : Weight) → row f (next d) (ins net false u) ≡ f (at (next d) 0) v false + f (at (next d) 1) v false) → ((f : Weight) → row f (next d) (outs net false u) ≡ f (at (next d) 0) w false)
    → Open net (defined (at (next d) 0) w (fed y (next d) 1 (fed x (next d) 0 (with_unit u d)))) o r (ws ++ Some w ∷ []) L k
unit2 {net} {d} {o} {r} {ws} {L} {k} u x y v w h ex ey i j s t =
    let n = next d in
    let b = lay_unit u false (λ f. f (at n 0) v false + (f (at n 1) v false + o f)) (λ f. f d.control 32 true + run f d.trigger 32 k + ends f L d.ends + (f y.place v false + (f x.place v false + r f)) + f (at n 0) w false) h.books i (λ f. let z = s f in omega (arith, z)) (λ f. let z = t f in omega (arith, z)) in
    let c = fed_books x n 0 v (λ f. f (at n 1) v false + o f) (λ f. f d.control 32 true + run f d.trigger 32 k + ends f L d.ends + (f y.place v false + r f) + f (at n 0) w false) b ex (λ f. refl) (λ f. omega arith) in
    let g = fed_books y n 1 v o (λ f. f d.control 32 true + run f d.trigger 32 k + ends f L d.ends + (f (at n 0) w false + r f)) c ey (λ f. refl) (λ f. omega arith) in
    let q : Open net (fed y n 1 (fed x n 0 (with_unit u d))) o (λ f. f (at n 0) w false + r f) ws L k = record { books = g; fits = h.fits; wide = h.wide; ahead = h.ahead; few = h.few } in
    defined_open (at n 0) w q j

pub unit3 : {net : Net} {d : Draft} {o r : Sum} {ws : Shape} {L : ℕ → ℕ} {k : ℕ} (u : Kind) (x y z : End) (v w : ℕ) → Open net d o (λ f. f z.place w false + (f y.place w false + (f x.place v false + r f))) ws L k → x.width ≡ v → y.width ≡ w → z.width ≡ w → IsTrue (width_fits u) → IsTrue (is_width w)
    → ((f : Weight) → row f (next d) (ins net false u) ≡ f (at (next d) 0) v false + f (at (next d) 1) w false + f (at (next d) 2) w false) → ((f : Weight) → row f (next d) (outs net false u) ≡ f (at (next d) 0) w false)
    → Open net (defined (at (next d) 0) w (fed z (next d) 2 (fed y (next d) 1 (fed x (next d) 0 (with_unit u d))))) o r (ws ++ Some w ∷ []) L k
unit3 {net} {d} {o} {r} {ws} {L} {k} u x y z v w h ex ey ez i j s t =
    let n = next d in
    let b = lay_unit u false (λ f. f (at n 0) v false + (f (at n 1) w false + (f (at n 2) w false + o f))) (λ f. f d.control 32 true + run f d.trigger 32 k + ends f L d.ends + (f z.place w false + (f y.place w false + (f x.place v false + r f))) + f (at n 0) w false) h.books i
    (λ f. let a = s f in omega (arith, a)) (λ f. let a = t f in omega (arith, a)) in
    let c = fed_books x n 0 v (λ f. f (at n 1) w false + (f (at n 2) w false + o f)) (λ f. f d.control 32 true + run f d.trigger 32 k + ends f L d.ends + (f z.place w false + (f y.place w false + r f)) + f (at n 0) w false) b ex (λ f. refl) (λ f. omega arith) in
    let g = fed_books y n 1 w (λ f. f (at n 2) w false + o f) (λ f. f d.control 32 true + run f d.trigger 32 k + ends f L d.ends + (f z.place w false + r f) + f (at n 0) w false) c ey (λ f. refl) (λ f. omega arith) in
    let l = fed_books z n 2 w o (λ f. f d.control 32 true + run f d.trigger 32 k + ends f L d.ends + (f (at n 0) w false + r f)) g ez (λ f. refl) (λ f. omega arith) in
    let q : Open net (fed z n 2 (fed y n 1 (fed x n 0 (with_unit u d)))) o (λ f. f (at n 0) w false + r f) ws L k = record { books = l; fits = h.fits; wide = h.wide; ahead = h.ahead; few = h.few } in
    defined_open (at n 0) w q j
