-- The channels of each edge stand in the net, at inputs of its own.
use Rattle.std.proofs.Common.{◌≡◌, ℕ, zero, suc, ◌+◌, ◌*◌, ◌^◌, ◌<◌, ◌≤◌, List, [], ◌∷◌, length, get_or, true, false, Some, None, refl, sym, ap, ◌∙◌, subst, inl, inr, arith}
use Rattle.std.specs.Prelude.{◌==◌, cond, slice_get}
use Rattle.std.specs.List.{Contains}
use Rattle.std.proofs.lemmas.Bool.{cases_eq, eq-eqb}
use Rattle.std.proofs.lemmas.List.{get_or-set_other}
use Rattle.std.proofs.lemmas.List.Elements.{All-contains, Contains-append_left, Contains-push}
use Rattle.std.proofs.lemmas.Option.{slice_get_within, get_or_from_slice_get}
use Rattle.ir.specs.declared.groups.Groups.{Groups}
use Rattle.ir.specs.Graphs.{Graph}
use Rattle.net_types.specs.declared.net.Chan.{Chan}
use Rattle.net_types.specs.Nets.{at}
use Rattle.circuit_build.specs.Asks.{IsAsked}
use Rattle.circuit_build.specs.Built.{with_join, built}
use Rattle.circuit_build.specs.declared.draft.Draft.{Draft}
use Rattle.circuit_build.specs.declared.draft.Edge.{Edge}
use Rattle.circuit_build.specs.declared.draft.End.{End}
use Rattle.circuit_build.specs.Drafts.{with_chan, fed, plus}
use Rattle.circuit_build.specs.Edges.{raised, data_laid, edge_at, edge_laid, edges_laid}
use Rattle.circuit_build.specs.Jumps.{head_end}
use Rattle.circuit_build.specs.Uses.{zeros}
use Rattle.circuit_build.proofs.Targets.{one_if, occurs, tops_of}
use Rattle.circuit_build.proofs.CountBooks.{chan}
use Rattle.circuit_build.proofs.CountEdges.{one_own}
use Rattle.circuit_build.proofs.CountJumps.{widths}
use Rattle.circuit_build.proofs.CountWhole as count
use Rattle.circuit_build.proofs.CountWhole.{raised_is, raised_length, zeros_length, zeros_at}
use Rattle.circuit_build.proofs.Keeps as keeps
use Rattle.circuit_build.proofs.LayBlocks.{head_of, inputs_of, args_of, edge_places, MergedAt, LeanAt}
use Rattle.circuit_build.proofs.LayExtends.{Any, AnyNumber, any_laid}
use Rattle.circuit_build.proofs.LayTails.{Stands, tail_is, last_to, last_only}
use Rattle.circuit_build.proofs.LayWires.{net_within}
use Rattle.circuit_build.proofs.Served.{arrays_bound}
use Rattle.circuit_build.proofs.Stages.{Outside}

-- ---- the channels of an edge to the head at h, at the inputs of number j

record ChansOf (cs : List Chan) (h j : ℕ) (e : Edge) : Type 0 where
  control : Contains cs (chan e.control (at h j) 32 true)
  values : (i : ℕ) (x : End) → slice_get e.with i ≡ Some x → Contains cs (chan x.place (at (h + 2 + i) (j + 1)) x.width false)

data_keeps : (c : Chan) (mux place : ℕ) (es : List End) (d : Draft) → Contains d.chans c → Contains (data_laid mux place es d).chans c
data_keeps c mux place es d h =
    keeps.data_keeps (λ d. Contains d.chans c) Any AnyNumber AnyNumber any_laid (λ k d f h. h) (λ p q w b d h. Contains-append_left d.chans (chan p q w b ∷ []) c h) (λ d e u s h. subst (λ cs. Contains cs c) (sym s) h) mux place es d h

edges_keep : (c : Chan) (seen : List ℕ) (es : List Edge) (d : Draft) → Contains d.chans c → Contains (edges_laid seen es d).chans c
edges_keep c seen es d h =
    keeps.edges_keep (λ d. Contains d.chans c) Any AnyNumber AnyNumber any_laid (λ k d f h. h) (λ p q w b d h. Contains-append_left d.chans (chan p q w b ∷ []) c h) (λ d e u s h. subst (λ cs. Contains cs c) (sym s) h) seen es d h

data_has : (mux place : ℕ) (es : List End) (d : Draft) → mux + length es ≤ 2 ^ 32 → (i : ℕ) (x : End) → slice_get es i ≡ Some x → Contains (data_laid mux place es d).chans (chan x.place (at (mux + i) place) x.width false)
data_has mux place [] d few i x e = absurd (cc)
data_has mux place (y ∷ es) d few zero x e =
    let same : y ≡ x = cc in
    let f = fed y mux place d in
    let own : Contains f.chans (chan y.place (at mux place) y.width false) = Contains-push d.chans (chan y.place (at mux place) y.width false) in
    let kept : Contains (data_laid (plus mux 1) place es f).chans (chan y.place (at mux place) y.width false) = data_keeps (chan y.place (at mux place) y.width false) (plus mux 1) place es f own in
    subst (λ (z : End). Contains (data_laid (plus mux 1) place es f).chans (chan z.place (at (mux + 0) place) z.width false)) same
    (subst (λ m. Contains (data_laid (plus mux 1) place es f).chans (chan y.place (at m place) y.width false)) (let z : mux ≡ mux + 0 = omega arith in z) kept)
data_has mux place (y ∷ es) d few (suc i) x e =
    let lt = slice_get_within es i x e in
    let f = fed y mux place d in
    let next : plus mux 1 ≡ mux + 1 = omega (arith, lt, few) in
    let r = data_has (plus mux 1) place es f (omega (arith, next, few)) i x e in
    subst (λ m. Contains (data_laid (plus mux 1) place es f).chans (chan x.place (at m place) x.width false)) (let z : plus mux 1 + i ≡ mux + suc i = omega (arith, next) in z) r

edge_has : (u j : ℕ) (e : Edge) (d : Draft) → suc u + 2 + length e.with ≤ 2 ^ 32 → j + 1 < 2 ^ 32 → ChansOf (edge_at (suc u) j e d).chans (suc u) j e
edge_has u j e d few less =
    let h = suc u in
    let x = with_chan e.control (at h j) 32 true d in
    let place : plus j 1 ≡ j + 1 = omega (arith, less) in
    record {
      control = data_keeps (chan e.control (at h j) 32 true) (plus h 2) (plus j 1) e.with x (Contains-push d.chans (chan e.control (at h j) 32 true));
      values = λ i y s.
          (let lt = slice_get_within e.with i y s in
          let mux : plus h 2 ≡ h + 2 = omega (arith, few, lt) in
          let r = data_has (plus h 2) (plus j 1) e.with x (omega (arith, few, mux)) i y s in
          subst (λ m. Contains (edge_at h j e d).chans (chan y.place (at m (j + 1)) y.width false)) (let z : plus h 2 + i ≡ h + 2 + i = omega (arith, mux) in z)
          (subst (λ p. Contains (edge_at h j e d).chans (chan y.place (at (plus h 2 + i) p) y.width false)) place r));
    }

data_heads : (mux place : ℕ) (es : List End) (d : Draft) → (data_laid mux place es d).heads ≡ d.heads
data_heads mux place [] d = refl
data_heads mux place (e ∷ es) d = data_heads (plus mux 1) place es (fed e mux place d)

edge_heads : (u j : ℕ) (e : Edge) (d : Draft) → (edge_at u j e d).heads ≡ d.heads
edge_heads zero j e d = refl
edge_heads (suc u) j e d = data_heads (plus (suc u) 2) (plus j 1) e.with (with_chan e.control (at (suc u) j) 32 true d)

-- ---- the number of an edge at its target: how many before it have that target

abbrev pub before : ℕ → ℕ → List Edge → ℕ
before t zero es = 0
before t (suc i) [] = 0
before t (suc i) (e ∷ es) = one_if e.to t + before t i es

before_less : (es : List Edge) (i : ℕ) (e : Edge) → slice_get es i ≡ Some e → before e.to i es < occurs e.to es
before_less [] i e s = absurd (cc)
before_less (x ∷ es) zero e s = let same : x ≡ e = cc in let a = ap (λ (y : Edge). one_if y.to e.to) same in let b = one_own e.to in omega (arith, a, b)
before_less (x ∷ es) (suc i) e s = let r = before_less es i e s in omega (arith, r)

chans_kept : (h j : ℕ) (e : Edge) (seen : List ℕ) (es : List Edge) (d : Draft) → ChansOf d.chans h j e → ChansOf (edges_laid seen es d).chans h j e
chans_kept h j e seen es d c = record {
  control = edges_keep (chan e.control (at h j) 32 true) seen es d c.control;
  values = λ i x s. edges_keep (chan x.place (at (h + 2 + i) (j + 1)) x.width false) seen es d (c.values i x s);
}

edges_have : (n : ℕ) (seen : List ℕ) (es : List Edge) (d : Draft) → length seen ≡ n → ((i : ℕ) (e : Edge) → slice_get es i ≡ Some e → e.to < n) → ((t : ℕ) → get_or seen t 0 + occurs t es + 1 < 2 ^ 32)
    → (i : ℕ) (e : Edge) → slice_get es i ≡ Some e → (u : ℕ) → get_or d.heads e.to 0 ≡ suc u → suc u + 2 + length e.with ≤ 2 ^ 32 → ChansOf (edges_laid seen es d).chans (suc u) (get_or seen e.to 0 + before e.to i es) e
edges_have n seen [] d l within few i e s u head room = absurd (cc)
edges_have n seen (x ∷ es) d l within few zero e s u head room =
    let same : x ≡ e = cc in
    let j = get_or seen x.to 0 in
    let f = few x.to in
    let o = one_own x.to in
    let h : get_or d.heads x.to 0 ≡ suc u = ap (λ (y : Edge). get_or d.heads y.to 0) same ∙ head in
    let r : suc u + 2 + length x.with ≤ 2 ^ 32 = subst (λ (y : Edge). suc u + 2 + length y.with ≤ 2 ^ 32) (sym same) room in
    let own : ChansOf (edge_laid j x d).chans (suc u) j x = subst (λ m. ChansOf (edge_at m j x d).chans (suc u) j x) (sym h) (edge_has u j x d r (omega (arith, f, o))) in
    let kept : ChansOf (edges_laid seen (x ∷ es) d).chans (suc u) j x = chans_kept (suc u) j x (raised x.to seen) es (edge_laid j x d) own in
    let z : ChansOf (edges_laid seen (x ∷ es) d).chans (suc u) (j + 0) x = subst (λ m. ChansOf (edges_laid seen (x ∷ es) d).chans (suc u) m x) (let z : j ≡ j + 0 = omega arith in z) kept in
    subst (λ (y : Edge). ChansOf (edges_laid seen (x ∷ es) d).chans (suc u) (get_or seen y.to 0 + 0) y) same z
edges_have n seen (x ∷ es) d l within few (suc i) e s u head room =
    let j = get_or seen x.to 0 in
    let d2 = edge_laid j x d in
    let heads : d2.heads ≡ d.heads = edge_heads (get_or d.heads x.to 0) j x d in
    let to_is : get_or d2.heads e.to 0 ≡ get_or d.heads e.to 0 = ap (λ hs. get_or hs e.to 0) heads in
    let next = raised x.to seen in
    let nl = raised_length x.to seen in
    let lt = within (suc i) e s in
    let f = few e.to in
    let up = raised_is x.to e.to seen (omega (arith, lt, l)) (omega (arith, f)) in
    let r = edges_have n next es d2 (nl ∙ l) (λ k y t. within (suc k) y t) (λ t. raised_few t) i e s u (to_is ∙ head) room in
    subst (λ m. ChansOf (edges_laid next es d2).chans (suc u) m e) (let z : get_or next e.to 0 + before e.to i es ≡ get_or seen e.to 0 + (one_if x.to e.to + before e.to i es) = omega (arith, up) in z) r
  where
    raised_few : (t : ℕ) → get_or (raised x.to seen) t 0 + occurs t es + 1 < 2 ^ 32
    raised_few t = elim (cases_eq t x.to) [
      | inl e ↦ (let f = few t in let l2 = within 0 x refl in let a = raised_is x.to t seen (omega (arith, e, l, l2)) (omega (arith, f)) in omega (arith, a, f))
      | inr n ↦ (let f = few t in let a = get_or-set_other seen x.to t (plus (get_or seen x.to 0) 1) 0 n in omega (arith, a, f))
    ]

-- ---- the edges of the net

widths_many : (es : List End) → length (widths es) ≡ length es
widths_many [] = refl
widths_many (x ∷ es) = ap suc (widths_many es)

module _ (g : Graph) (gs : Groups) (ask : IsAsked g gs) where
  edge_fits : (k : ℕ) (y : Edge) → slice_get (with_join g gs).edges k ≡ Some y → slice_get (tops_of g) y.to ≡ Some (widths y.with)
  edge_fits k y t =
      All-contains (λ (e : Edge). slice_get (tops_of g) e.to ≡ Some (widths e.with)) (with_join g gs).edges y (count.edges_fit g gs ask.graph ask.share ask.small.bounded (arrays_bound g gs ask))
      (k, slice_get_within (with_join g gs).edges k y t, get_or_from_slice_get (with_join g gs).edges k y y t)

  -- the target of an edge is a block or the return join
  pub edge_to : (k : ℕ) (y : Edge) → slice_get (with_join g gs).edges k ≡ Some y → y.to < suc (length g.blocks)
  edge_to k y t = let w = slice_get_within (tops_of g) y.to (widths y.with) (edge_fits k y t) in let tops = count.tops_many g gs ask.graph ask.share ask.small.bounded (arrays_bound g gs ask) in omega (arith, w, tops)

  pub edge_many : (k : ℕ) (y : Edge) → slice_get (with_join g gs).edges k ≡ Some y → length y.with ≡ length (args_of g y.to)
  edge_many k y t = sym (ap (λ (ws : List ℕ). length ws) (get_or_from_slice_get (tops_of g) y.to (widths y.with) [] (edge_fits k y t)) ∙ widths_many y.with)

  pub all_heads : length (with_join g gs).heads ≡ suc (length g.blocks)
  all_heads = count.heads_many g gs ask.graph ask.share ask.small.bounded (arrays_bound g gs ask)

  -- how many edges a target has
  pub edges_count : (t : ℕ) → t < suc (length g.blocks) → occurs t (with_join g gs).edges ≡ inputs_of g t
  edges_count t lt = let c = count.edges_count g gs ask.graph ask.share ask.small.bounded (arrays_bound g gs ask) t lt in omega (arith, c)

  pub edges_at : (k : ℕ) (y : Edge) → slice_get (with_join g gs).edges k ≡ Some y → occurs y.to (with_join g gs).edges ≡ inputs_of g y.to
  edges_at k y t = edges_count y.to (edge_to k y t)

  -- the edge of a number in the list of all, to a merge
  pub merged_at : (i : ℕ) (e : Edge) → slice_get (with_join g gs).edges i ≡ Some e → (u : ℕ) → head_of g gs e.to ≡ suc u → suc u + 2 + length (args_of g e.to) < 2 ^ 32
      → Outside 0 (head_of g gs e.to) (head_end (head_of g gs e.to) (length e.with)) (edge_places e) → MergedAt g gs (built g gs) e
  merged_at i e s u head room out =
      let few = arrays_bound g gs ask in
      let size = ask.small.bounded in
      let d = with_join g gs in
      let n = length g.blocks in
      let zs = zeros (n + 1) in
      let many = edge_many i e s in
      let total = edges_at i e s in
      let less = before_less d.edges i e s in
      let zl = zeros_length (n + 1) in
      let chans : ChansOf (built g gs).chans (suc u) (get_or zs e.to 0 + before e.to i d.edges) e =
      edges_have (suc n) zs d.edges (record d { edges = [] }) (omega (arith, zl)) edge_to
      (λ t. let a = zeros_at (n + 1) t in let b = count.edges_few g gs ask.graph ask.share size few t in omega (arith, a, b)) i e s u head (omega (arith, many, room)) in
      let number : get_or zs e.to 0 + before e.to i d.edges ≡ before e.to i d.edges = let a = zeros_at (n + 1) e.to in omega (arith, a) in
      let own : ChansOf (built g gs).chans (head_of g gs e.to) (before e.to i d.edges) e =
      subst (λ h. ChansOf (built g gs).chans h (before e.to i d.edges) e) (sym head) (subst (λ j. ChansOf (built g gs).chans (suc u) j e) number chans) in
      let w = net_within g gs ask in
      record {
        some = omega (arith, head);
        number = before e.to i d.edges;
        less = omega (arith, less, total);
        wires = record {
          control = w.wire (chan e.control (at (head_of g gs e.to) (before e.to i d.edges)) 32 true) own.control;
          values = λ k x t. w.wire (chan x.place (at (head_of g gs e.to + 2 + k) (before e.to i d.edges + 1)) x.width false) (own.values k x t);
        };
        outside = out;
      }

  -- the only edge of a target without a merge
  pub lean_at : Stands (suc (length g.blocks)) (with_join g gs) → (i : ℕ) (e : Edge) → slice_get (with_join g gs).edges i ≡ Some e → head_of g gs e.to ≡ 0 → inputs_of g e.to ≡ 1 → LeanAt g gs e
  lean_at st i e s head one =
      let d = with_join g gs in
      record {
        none = head;
        only = tail_is (suc (length g.blocks)) (inputs_of g e.to) e.to d (edge_to i e s) st
            ∙ ap (λ b. cond b (last_to e.to d.edges) None) (eq-eqb (inputs_of g e.to) 1 one)
            ∙ last_only e.to d.edges i e s refl (edges_at i e s ∙ one);
      }
