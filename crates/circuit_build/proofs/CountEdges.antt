-- The channels of the edges fill the heads: each head has as many inputs as edges lead to it.
use Rattle.std.proofs.Common.{◌≡◌, ◌≢◌, ℕ, zero, suc, ◌+◌, ◌<◌, ◌^◌, List, [], ◌∷◌, length, get_or, true, false, Some, refl, sym, ap, ◌∙◌, inl, inr, arith}
use Rattle.std.specs.Prelude.{All, slice_get, cond}
use Rattle.std.proofs.lemmas.Bool.{cases_eq}
use Rattle.std.proofs.lemmas.List.{length-set, get_or-set_same, get_or-set_other}
use Rattle.std.proofs.lemmas.List.Elements.{All-head, All-tail}
use Rattle.std.proofs.lemmas.Option.{slice_get_within, slice_get-get_or, get_or_from_slice_get}
use Rattle.net_types.specs.declared.net.Net.{Net}
use Rattle.net_types.specs.Nets.{at}
use Rattle.circuit_build.specs.declared.draft.Draft.{Draft}
use Rattle.circuit_build.specs.declared.draft.Edge.{Edge}
use Rattle.circuit_build.specs.declared.draft.End.{End}
use Rattle.circuit_build.specs.Drafts.{plus, with_chan, fed}
use Rattle.circuit_build.specs.Edges.{raised, data_laid, edge_at, edges_laid}
use Rattle.circuit_build.proofs.CountBooks.{Weight, Sum, Books, moved, lay_chan}
use Rattle.circuit_build.proofs.CountItems.{fed_books}
use Rattle.circuit_build.proofs.CountSteps.{carried, is_zero, edges, hsum}
use Rattle.circuit_build.proofs.CountJumps.{widths}
use Rattle.circuit_build.proofs.CountKept.{muxes_left, head_left, waits, occurs}
use Rattle.circuit_build.proofs.Remains.{one_if}
pub use Rattle.circuit_build.proofs.Remains.{one_own, one_other}

-- ---- sums over heads

pub hsum_same : (hs : List ℕ) (K L : ℕ → ℕ → ℕ) → ((t h : ℕ) → t < length hs → K t h ≡ L t h) → hsum K hs ≡ hsum L hs
hsum_same [] K L e = refl
hsum_same (h ∷ hs) K L e = let a = e 0 h (omega arith) in let i = hsum_same hs (λ t. K (suc t)) (λ t. L (suc t)) (λ t x l. e (suc t) x (omega arith)) in omega (arith, a, i)

pub hsum_none : (hs : List ℕ) (K : ℕ → ℕ → ℕ) → ((t h : ℕ) → K t h ≡ 0) → hsum K hs ≡ 0
hsum_none [] K e = refl
hsum_none (h ∷ hs) K e = let a = e 0 h in let i = hsum_none hs (λ t. K (suc t)) (λ t x. e (suc t) x) in omega (arith, a, i)

hsum_change : (hs : List ℕ) (K L : ℕ → ℕ → ℕ) (t c : ℕ) → t < length hs → ((u h : ℕ) → u ≢ t → K u h ≡ L u h) → K t (get_or hs t 0) ≡ c + L t (get_or hs t 0) → hsum K hs ≡ c + hsum L hs
hsum_change [] K L t c l e h = absurd (omega arith)
hsum_change (x ∷ hs) K L zero c l e h = let i = hsum_same hs (λ t. K (suc t)) (λ t. L (suc t)) (λ t y m. e (suc t) y (λ n. absurd (omega (arith, n)))) in omega (arith, h, i)
hsum_change (x ∷ hs) K L (suc t) c l e h =
    let a = e 0 x (λ n. absurd (omega (arith, n))) in
    let i = hsum_change hs (λ t. K (suc t)) (λ t. L (suc t)) t c (omega arith) (λ u y n. e (suc u) y (λ m. n (omega (arith, m)))) h in
    omega (arith, a, i)

-- ---- an edge

abbrev data_tos : Weight → ℕ → ℕ → List ℕ → ℕ
data_tos f m p [] = 0
data_tos f m p (w ∷ ws) = f (at m p) w false + data_tos f (plus m 1) p ws

muxes_one : (f : Weight) (m : ℕ) (ws : List ℕ) (j k : ℕ) → muxes_left f m ws j (suc k) ≡ data_tos f m (suc j) ws + muxes_left f m ws (suc j) k
muxes_one f m [] j k = refl
muxes_one f m (w ∷ ws) j k = let i = muxes_one f (plus m 1) ws j k in omega (arith, i)

muxes_none : (f : Weight) (m : ℕ) (ws : List ℕ) (j : ℕ) → muxes_left f m ws j 0 ≡ 0
muxes_none f m [] j = refl
muxes_none f m (w ∷ ws) j = let i = muxes_none f (plus m 1) ws j in omega (arith, i)

data_books : {net : Net} (m p : ℕ) (es : List End) (d : Draft) (o h o' h' : Sum) → Books net d.units d.chans o h → ((f : Weight) → o f ≡ data_tos f m p (widths es) + o' f) → ((f : Weight) → h f ≡ carried f es + h' f)
    → Books net (data_laid m p es d).units (data_laid m p es d).chans o' h'
data_books m p [] d o h o' h' b s t = moved o' h' b (λ f. let x = s f in omega (arith, x)) (λ f. let x = t f in omega (arith, x))
data_books m p (e ∷ es) d o h o' h' b s t =
    let x = fed_books e m p e.width (λ f. data_tos f (plus m 1) p (widths es) + o' f) (λ f. carried f es + h' f) b refl (λ f. let y = s f in omega (arith, y)) (λ f. let y = t f in omega (arith, y)) in
    data_books (plus m 1) p es (fed e m p d) (λ f. data_tos f (plus m 1) p (widths es) + o' f) (λ f. carried f es + h' f) o' h' x (λ f. refl) (λ f. refl)

pub data_heads : (m p : ℕ) (es : List End) (d : Draft) → (data_laid m p es d).heads ≡ d.heads
data_heads m p [] d = refl
data_heads m p (e ∷ es) d = data_heads (plus m 1) p es (fed e m p d)

raised_at : (t : ℕ) (seen : List ℕ) → t < length seen → get_or seen t 0 + 1 < 2 ^ 32 → get_or (raised t seen) t 0 ≡ suc (get_or seen t 0)
raised_at t seen l s = let e = get_or-set_same seen t (plus (get_or seen t 0) 1) 0 l in omega (arith, e, s)

raised_other : (t u : ℕ) (seen : List ℕ) → u ≢ t → get_or (raised t seen) u 0 ≡ get_or seen u 0
raised_other t u seen n = get_or-set_other seen t u (plus (get_or seen t 0) 1) 0 n

-- ---- all edges

-- the heads stay
pub edge_heads : (h j : ℕ) (e : Edge) (d : Draft) → (edge_at h j e d).heads ≡ d.heads
edge_heads zero j e d = refl
edge_heads (suc h) j e d = data_heads (plus (suc h) 2) (plus j 1) e.with (with_chan e.control (at (suc h) j) 32 true d)

module _ (net : Net) (tops : List (List ℕ)) where
  -- of each target so many edges are laid, and those that are left fill its head
  abbrev pub Left : List ℕ → List Edge → Weight → ℕ → ℕ → ℕ
  Left seen es f t h = waits f h (get_or tops t []) (get_or seen t 0) (occurs t es)

  edge_books : (seen : List ℕ) (e : Edge) (es : List Edge) (d : Draft) (h : ℕ) → get_or d.heads e.to 0 ≡ h → length d.heads ≡ length tops → length seen ≡ length tops → get_or seen e.to 0 + occurs e.to (e ∷ es) + 1 < 2 ^ 32 → slice_get tops e.to ≡ Some (widths e.with)
      → Books net d.units d.chans (λ f. hsum (Left seen (e ∷ es) f) d.heads) (λ f. edges f d.heads (e ∷ es)) → (let z = edge_at h (get_or seen e.to 0) e d in Books net z.units z.chans (λ f. hsum (Left (raised e.to seen) es f) d.heads) (λ f. edges f d.heads es))
  edge_books seen e es d h is l s few here b = by h is
    where
      within : e.to < length tops
      within = slice_get_within tops e.to (widths e.with) here

      other : (f : Weight) (u x : ℕ) → u ≢ e.to → Left seen (e ∷ es) f u x ≡ Left (raised e.to seen) es f u x
      other f u x n =
          let p = one_other e.to u n in
          let q = raised_other e.to u seen n in
          ap (λ c. waits f x (get_or tops u []) (get_or seen u 0) (c + occurs u es)) p ∙ ap (λ c. waits f x (get_or tops u []) (get_or seen u 0) c) (let z : 0 + occurs u es ≡ occurs u es = omega arith in z) ∙ ap (λ c. waits f x (get_or tops u []) c (occurs u es)) (sym q)

      head_is : slice_get d.heads e.to ≡ Some (get_or d.heads e.to 0)
      head_is = slice_get-get_or d.heads e.to 0 (let w = within in omega (arith, w, l))

      by : (h : ℕ) → get_or d.heads e.to 0 ≡ h → (let z = edge_at h (get_or seen e.to 0) e d in Books net z.units z.chans (λ f. hsum (Left (raised e.to seen) es f) d.heads) (λ f. edges f d.heads es))
      by zero z = moved (λ f. hsum (Left (raised e.to seen) es f) d.heads) (λ f. edges f d.heads es) b
          (λ f. let w = within in let x = hsum_change d.heads (Left seen (e ∷ es) f) (Left (raised e.to seen) es f) e.to 0 (omega (arith, w, l)) (other f) (let p = ap (λ k. Left seen (e ∷ es) f e.to k) z in let q = ap (λ k. Left (raised e.to seen) es f e.to k) z in omega (arith, p, q)) in omega (arith, x))
          (λ f. let x = ap (λ k. cond (is_zero k) 0 (f e.control 32 true + carried f e.with)) (head_is ∙ ap Some z) in omega (arith, x))
      by (suc h) z =
          let j = get_or seen e.to 0 in
          let own = one_own e.to in
          let next = raised e.to seen in
          let w = within in
          let at_own = raised_at e.to seen (omega (arith, w, s)) (omega (arith, few, own)) in
          let top = get_or_from_slice_get tops e.to (widths e.with) [] here in
          let o' : Sum = λ f. hsum (Left next es f) d.heads in
          let used : (f : Weight) → hsum (Left seen (e ∷ es) f) d.heads ≡ (f (at (suc h) j) 32 true + data_tos f (plus (suc h) 2) (suc j) (widths e.with)) + o' f = λ f.
          hsum_change d.heads (Left seen (e ∷ es) f) (Left next es f) e.to (f (at (suc h) j) 32 true + data_tos f (plus (suc h) 2) (suc j) (widths e.with)) (omega (arith, w, l)) (other f)
          (let x0 = ap (λ k. Left seen (e ∷ es) f e.to k) z in
          let y0 = ap (λ k. Left next es f e.to k) z in
          let x = ap (λ c. head_left f (suc h) (get_or tops e.to []) j (c + occurs e.to es)) own in
          let y = ap (λ c. head_left f (suc h) (get_or tops e.to []) j c) (let z : 1 + occurs e.to es ≡ suc (occurs e.to es) = omega arith in z) in
          let z = muxes_one f (plus (suc h) 2) (get_or tops e.to []) j (occurs e.to es) in
          let v = ap (λ c. head_left f (suc h) (get_or tops e.to []) c (occurs e.to es)) at_own in
          let w = ap (λ c. data_tos f (plus (suc h) 2) (suc j) c) top in
          omega (arith, x0, y0, x, y, z, v, w)) in
          let c = lay_chan e.control (at (suc h) j) 32 true (λ f. data_tos f (plus (suc h) 2) (suc j) (widths e.with) + o' f) (λ f. carried f e.with + edges f d.heads es) b (λ f. let x = used f in omega (arith, x))
          (λ f. let x = ap (λ k. cond (is_zero k) 0 (f e.control 32 true + carried f e.with)) (head_is ∙ ap Some z) in omega (arith, x)) in
          let x = with_chan e.control (at (suc h) j) 32 true d in
          let place : plus j 1 ≡ suc j = omega (arith, few, own) in
          data_books (plus (suc h) 2) (plus j 1) e.with x (λ f. data_tos f (plus (suc h) 2) (suc j) (widths e.with) + o' f) (λ f. carried f e.with + edges f d.heads es) o' (λ f. edges f d.heads es) c (λ f. let y = ap (λ n. data_tos f (plus (suc h) 2) n (widths e.with)) place in omega (arith, y)) (λ f. refl)

  pub edges_books : (seen : List ℕ) (es : List Edge) (d : Draft) → length d.heads ≡ length tops → length seen ≡ length tops → ((t : ℕ) → get_or seen t 0 + occurs t es + 1 < 2 ^ 32) → All (λ (e : Edge). slice_get tops e.to ≡ Some (widths e.with)) es
      → Books net d.units d.chans (λ f. hsum (Left seen es f) d.heads) (λ f. edges f d.heads es) → Books net (edges_laid seen es d).units (edges_laid seen es d).chans (λ f. 0) (λ f. 0)
  edges_books seen [] d l s few a b = moved (λ f. 0) (λ f. 0) b (λ f. hsum_none d.heads (Left seen [] f) (λ t h. none f h (get_or tops t []) (get_or seen t 0))) (λ f. refl)
    where
      none : (f : Weight) (h : ℕ) (ws : List ℕ) (j : ℕ) → waits f h ws j 0 ≡ 0
      none f zero ws j = refl
      none f (suc h) ws j = let x = muxes_none f (plus (suc h) 2) ws j in omega (arith, x)
  edges_books seen (e ∷ es) d l s few a b =
      let F : Edge → Type 0 = λ (e : Edge). slice_get tops e.to ≡ Some (widths e.with) in
      let here = All-head F e es a in
      let j = get_or seen e.to 0 in
      let h = get_or d.heads e.to 0 in
      let next = raised e.to seen in
      let x = edge_books seen e es d h refl l s (few e.to) here b in
      let z = edge_at h j e d in
      let same = edge_heads h j e d in
      let w = slice_get_within tops e.to (widths e.with) here in
      let own = one_own e.to in
      let fe = few e.to in
      let at_own = raised_at e.to seen (omega (arith, w, s)) (omega (arith, fe, own)) in
      edges_books next es z (ap length same ∙ l) (length-set seen e.to (plus j 1) ∙ s)
      (λ t. elim (cases_eq t e.to) [
        | inl i ↦ (let p = few t in let q = ap (λ n. get_or next n 0) i in let r = ap (λ n. get_or seen n 0) i in let v = ap (λ n. one_if e.to n) i in omega (arith, p, q, r, v, at_own, own))
        | inr n ↦ (let p = few t in let q = raised_other e.to t seen n in omega (arith, p, q))
      ])
      (All-tail F e es a) (moved (λ f. hsum (Left next es f) z.heads) (λ f. edges f z.heads es) x (λ f. ap (λ hs. hsum (Left next es f) hs) (sym same)) (λ f. ap (λ hs. edges f hs es) (sym same)))
