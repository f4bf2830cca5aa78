use Rattle.std.proofs.Common.{◌≡◌, ◌+◌, ◌-◌, ◌∷◌, [], length, length-append, get_or, ap, sym, subst, ◌∙◌, arith}
use Rattle.graph_parts.specs.Deepening.{IsSearching}
use Rattle.graph_parts.proofs.TopologicalLemmas.{ends, last_within, left_is, row_is, looks_on, place_within}
use Rattle.graph_parts.proofs.topological.advance.Goals as goal

pub bounds-as_slice-left : goal.bounds-as_slice-left
bounds-as_slice-left c =
    let rows = c.args.rows.now in
    let s = c.requires.deepening in
    let n = last_within rows _ _ _ _ c.args.node s in
    let r = row_is rows c.args.node _ _ n c.as_slice.ensures c.index-rows-node.is in
    let v = left_is c.args.search.now.left.items c.args.node _ (omega (arith, n, s.left_size)) c.index-left.ensures in
    place_within rows _ _ _ _ c.as_slice.result.now c.args.node c.index-left.result.now c.if-left-eq0.false v r s

pub offset_bounds-as_slice-left : goal.offset_bounds-as_slice-left
offset_bounds-as_slice-left c =
    let rows = c.args.rows.now in
    let s = c.requires.deepening in
    let n = last_within rows _ _ _ _ c.args.node s in
    let r = row_is rows c.args.node _ _ n c.as_slice.ensures c.index-rows-node.is in
    let v = left_is c.args.search.now.left.items c.args.node _ (omega (arith, n, s.left_size)) c.index-left.ensures in
    let l = place_within rows _ _ _ _ c.as_slice.result.now c.args.node c.index-left.result.now c.if-left-eq0.false v r s in
    let few = c.as_slice.type_inv.1 in
    omega arith

pub meet-requires : goal.meet-requires
meet-requires c =
    let rows = c.args.rows.now in
    let s = c.requires.deepening in
    let n = last_within rows _ _ _ _ c.args.node s in
    let r = row_is rows c.args.node _ _ n c.as_slice.ensures c.index-rows-node.is in
    let v = left_is c.args.search.now.left.items c.args.node _ (omega (arith, n, s.left_size)) c.index-left.ensures in
    let l = place_within rows _ _ _ _ c.as_slice.result.now c.args.node c.index-left.result.now c.if-left-eq0.false v r s in
    let x = get_or c.as_slice.result.now (c.index-left.result.now - 1) 0 in
    let k : length c.as_slice.result.now ≡ length (get_or rows c.args.node []) = ap length r in
    let m = c.requires.named c.args.node x (c.index-left.result.now - 1, omega arith, ap (λ xs. get_or xs (c.index-left.result.now - 1) 0) (sym r)) in
    omega (arith, s.seen_size)

pub index_mut-requires : goal.index_mut-requires
index_mut-requires c = let n = last_within c.args.rows.now _ _ _ _ c.args.node c.requires.deepening in omega (arith, n, c.requires.deepening.left_size, c.args.search.now.left.ok.0)

pub returns-in_ok-push : goal.returns-in_ok-push
returns-in_ok-push c =
    let s = c.args.search.now in
    let d = c.requires.deepening in
    let n = last_within c.args.rows.now _ _ _ _ c.args.node d in
    let v = left_is s.left.items c.args.node _ (omega (arith, n, d.left_size)) c.index-left.ensures in
    record {
      searching = subst (λ o. IsSearching c.args.rows.now s.seen.items s.left.items s.path.items o) (sym c.in_ok-push.ensures.items)
          (ends c.args.rows.now c.requires.acyclic s.seen.items s.left.items s.path.items s.order.items c.args.node (sym v ∙ c.if-left-eq0.true) d);
      kept = λ v h. h;
      less = omega (arith, length-append s.path.items (c.args.node ∷ []));
    }

pub returns-in_ok-meet : goal.returns-in_ok-meet
returns-in_ok-meet c =
    let s = c.args.search.now in
    let d = c.requires.deepening in
    let value = c.index-left.result.now in
    let n = last_within c.args.rows.now _ _ _ _ c.args.node d in
    let v = left_is s.left.items c.args.node _ (omega (arith, n, d.left_size)) c.index-left.ensures in
    let r = row_is c.args.rows.now c.args.node _ _ n c.as_slice.ensures c.index-rows-node.is in
    let z = c.if-left-eq0.false in
    let e : get_or s.left.items c.args.node 0 ≡ value - 1 + 1 = omega arith in
    let o = looks_on c.args.rows.now c.requires.acyclic c.requires.named s.seen.items _ s.left.items s.path.items _ _ s.order.items c.as_slice.result.now c.args.node (value - 1) e r
    c.in_ok-push-2.ensures.items c.in_ok-meet.ensures.seen c.in_ok-meet.ensures.path d in
    record { searching = o.searching; kept = o.kept; less = o.less }
