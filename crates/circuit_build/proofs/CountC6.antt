-- Rule C6 of the whole net.
use Rattle.std.proofs.Common.{◌≡◌, ℕ, ◌+◌, ◌<◌, ◌≤◌, ◌^◌, List, [], ◌∷◌, ◌++◌, length, get_or, false, refl, sym, ap, ◌∙◌, subst, inl, inr, arith, length-append, Option, Some, None}
use Rattle.std.proofs.lemmas.Bool.{cases_eq, cases_lt, false≢true}
use Rattle.el_base.specs.declared.ty.Ty.{Ty}
use Rattle.ir.specs.declared.groups.Groups.{Groups}
use Rattle.ir.specs.Graphs.{Graph}
use Rattle.net_types.specs.declared.net.Place.{Place}
use Rattle.net_types.specs.declared.net.Net.{Net}
use Rattle.net_types.specs.declared.net.Unit.{Unit as Kind}
use Rattle.net_types.specs.declared.net.Unit.TheVariants.{Sink, Exit, Entry}
use Rattle.net_types.specs.Nets.{at}
use Rattle.net_check.specs.Headers.{is_exit}
use Rattle.net_check.specs.Ends.{is_lsq, end_place, IsAtExit, IsQueue, KeepsC6}
use Rattle.circuit_build.specs.declared.draft.Draft.{Draft}
use Rattle.circuit_build.specs.Drafts.{next}
use Rattle.circuit_build.specs.Blocks.{ins_of, head_laid}
use Rattle.circuit_build.specs.Edges.{edge_counts}
use Rattle.circuit_build.specs.Endings.{result_widths, ones, all_ended, exited, feeders_laid}
use Rattle.circuit_build.specs.Fronts.{started, entered, groups_from}
use Rattle.circuit_build.specs.Built.{join_of, front_of, with_blocks, with_feeders, with_join, whole_draft, built}
use Rattle.circuit_build.proofs.Keeps as keeps
use Rattle.circuit_build.proofs.Keeps.{Laid}
use Rattle.circuit_build.proofs.CountRules.{Closed, one_in, one_out}
use Rattle.circuit_build.proofs.CountKept.{heading}
use Rattle.circuit_build.proofs.Fields.{head_headed}
use Rattle.circuit_build.proofs.CountFronts.{entered_books}
use Rattle.circuit_build.proofs.CountChain.{Linked, linked_more, ends_at, ended_units, ended_linked, AreEnds, onto, times, walked, ends_well, met_once, begins_at_none}
use Rattle.circuit_build.proofs.CountEnds.{blocks_ends, if_queues, feeders_queues, AreEndsOf, Queued, get_before, get_last, get_past, queues_queued}

-- ---- the units before the blocks stay, and no queue comes later

record Prefix (us ks : List Kind) : Type 0 where
  long : length us ≤ length ks
  same : (u : ℕ) → u < length us → get_or ks u (Sink 0) ≡ get_or us u (Sink 0)
  none : (u : ℕ) → length us ≤ u → is_lsq (get_or ks u (Sink 0)) ≡ false

prefix_own : (us : List Kind) → Prefix us us
prefix_own us = record { long = omega arith; same = λ u l. refl; none = λ u l. ap is_lsq (get_past us u l) }

prefix_more : (us ks : List Kind) (k : Kind) → is_lsq k ≡ false → Prefix us ks → Prefix us (ks ++ k ∷ [])
prefix_more us ks k e h =
    let n = length-append ks (k ∷ []) in
    let l = h.long in
    record {
      long = omega (arith, n, l);
      same = λ u i. get_before ks k u (omega (arith, i, l)) ∙ h.same u i;
      none = λ u i. elim (cases_lt u (length ks)) [
        | inl x ↦ ap is_lsq (get_before ks k u x) ∙ h.none u i
        | inr x ↦ elim (cases_eq u (length ks)) [
          | inl y ↦ ap is_lsq (get_last ks k u y) ∙ e
          | inr y ↦ ap is_lsq (get_past (ks ++ k ∷ []) u (let w : length ks < u = grind (arith, x, y) in omega (arith, n, w)))
        ]
      ];
    }

others : Laid (λ k. is_lsq k ≡ false) keeps.Free keeps.Free
others = record { const = λ w n. refl; op1 = λ op. refl; op2 = λ op. refl; select = λ w. refl; fork1 = λ w. refl; forks = λ w n s o. refl; mux = λ w n i. refl; merge = λ n i. refl; branch = λ w. refl; sink = λ w. refl }

any : Laid (λ k. Unit {0}) keeps.Free keeps.Free
any = record { const = λ w n. tt; op1 = λ op. tt; op2 = λ op. tt; select = λ w. tt; fork1 = λ w. tt; forks = λ w n s o. tt; mux = λ w n i. tt; merge = λ n i. tt; branch = λ w. tt; sink = λ w. tt }

entered_prefix : (g : Graph) → Prefix [] (entered g.scalars (started (length g.blocks + 1))).units
entered_prefix g =
    keeps.entered_keeps (λ d. Prefix [] d.units) (λ k. is_lsq k ≡ false) keeps.Free keeps.Free others (λ k d e h. prefix_more [] d.units k e h) (λ p q w c d h. h) (λ d e u c h. subst (Prefix []) (sym u) h) (λ j. refl) g.scalars (started (length g.blocks + 1))
    (prefix_more [] [] Entry refl (prefix_own []))

whole_prefix : (g : Graph) (gs : Groups) → Prefix (front_of g gs).units (whole_draft g gs).units
whole_prefix g gs =
    let us = (front_of g gs).units in
    keeps.after_front (λ d. Prefix us d.units) (λ k. is_lsq k ≡ false) keeps.Free keeps.Free others (λ k d e h. prefix_more us d.units k e h) (λ p q w c d h. h) (λ d e u c h. subst (Prefix us) (sym u) h) (λ a. refl) refl g gs (λ t. tt) (keeps.free g.blocks) keeps.free_few (prefix_own us)

-- ---- the exit, and the channels of the chain

record Stands (i : ℕ) (k : Kind) (us : List Kind) : Type 0 where
  within : i < length us
  kind : get_or us i (Sink 0) ≡ k

stands_more : (i : ℕ) (k j : Kind) (us : List Kind) → Stands i k us → Stands i k (us ++ j ∷ [])
stands_more i k j us h = record { within = let l = length-append us (j ∷ []) in let w = h.within in omega (arith, l, w); kind = get_before us j i h.within ∙ h.kind }

pub exited_units : (t : Option Ty) (d : Draft) → (exited t d).units ≡ d.units ++ Exit ∷ []
exited_units None d = refl
exited_units (Some t) d = refl

abbrev join_head : Graph → Groups → Draft
join_head g gs = head_laid (ins_of (edge_counts g.blocks) (join_of g)) (join_of g) (result_widths g.result) (ones (result_widths g.result)) 0 (with_feeders g gs)

exit_stands : (g : Graph) (gs : Groups) → Stands (length (join_head g gs).units) Exit (whole_draft g gs).units
exit_stands g gs =
    let e = join_head g gs in
    let i = length e.units in
    let x = all_ended e.queues e in
    let u : (with_join g gs).units ≡ e.units ++ Exit ∷ [] = exited_units g.result x ∙ ap (λ us. us ++ Exit ∷ []) (ended_units e.queues e) in
    let own : Stands i Exit (e.units ++ Exit ∷ []) = record { within = let l = length-append e.units (Exit ∷ []) in omega (arith, l); kind = get_last e.units Exit i refl } in
    keeps.rest_keeps (λ d. Stands i Exit d.units) (λ k. Unit {0}) keeps.Free keeps.Free any (λ k d e h. stands_more i Exit k d.units h) (λ p q w c d h. h) (λ d e u c h. subst (Stands i Exit) (sym u) h) g gs (subst (Stands i Exit) (sym u) own)

chain_linked : (g : Graph) (gs : Groups) → (let e = join_head g gs in Linked (whole_draft g gs).chans e.control (ends_at e.queues) (at (next e) 0))
chain_linked g gs =
    let e = join_head g gs in
    let c = e.control in
    let ps = ends_at e.queues in
    let x = at (next e) 0 in
    keeps.rest_keeps (λ d. Linked d.chans c ps x) (λ k. Unit {0}) keeps.Free keeps.Free any (λ k d e h. h) (λ p q w b d h. linked_more d.chans _ c ps x h) (λ d e u b h. subst (λ cs. Linked cs c ps x) (sym b) h) g gs (ended_linked g.result e.queues e)

-- ---- all

are_ends : (us : List Kind) (net : Net) (ps : List Place) → Prefix us net.units → AreEndsOf us ps → AreEnds net ps
are_ends us net [] h a = tt
are_ends us net (p ∷ ps) h a =
    let l = h.long in
    let i = a.0.within in
    let e = h.same p.unit i in
    (record { within = omega (arith, l, i); queue = ap is_lsq e ∙ a.0.queue; place = a.0.place ∙ sym (ap end_place e) }, are_ends us net ps h a.1)

front_queued : (g : Graph) (gs : Groups) → length g.scalars < 2 ^ 32 → ((a : ℕ) → length (groups_from a 0 gs.of) < 2 ^ 32) → length (front_of g gs).units < 2 ^ 32 → Queued (front_of g gs)
front_queued g gs few groups room =
    let d = entered g.scalars (started (length g.blocks + 1)) in
    let q = (entered_books (heading g) (length g.blocks + 1) few).queues_are in
    let p = entered_prefix g in
    queues_queued g.blocks gs.of 0 g.arrays d groups room (record {
      ends = subst (λ qs. AreEndsOf d.units (ends_at qs)) (sym q) tt;
      once = λ u e. absurd (false≢true (sym (p.none u (omega arith)) ∙ e));
      past = λ u l. ap (λ qs. times u (ends_at qs)) q;
    })

pub chain_kept : (g : Graph) (gs : Groups) → length g.scalars < 2 ^ 32 → ((a : ℕ) → length (groups_from a 0 gs.of) < 2 ^ 32) → length (built g gs).units < 2 ^ 32 → Closed (built g gs) → KeepsC6 (built g gs)
chain_kept g gs few groups room b =
    let net = built g gs in
    let e = join_head g gs in
    let f = front_of g gs in
    let ps = ends_at e.queues in
    let w = whole_prefix g gs in
    let wl = w.long in
    let small : length f.units < 2 ^ 32 = omega (arith, wl, room) in
    let q = front_queued g gs few groups small in
    let counts = edge_counts g.blocks in
    let ws = result_widths g.result in
    let fs = feeders_laid counts 0 g.blocks (with_blocks g gs) in
    let qs : ps ≡ ends_at f.queues = ap ends_at ((head_headed (ins_of counts (join_of g)) (join_of g) ws (ones ws) 0 (with_feeders g gs)).queues ∙ if_queues (get_or counts (join_of g) 0) (join_of g) ws fs ∙ feeders_queues counts 0 g.blocks (with_blocks g gs))
    ∙ blocks_ends g.arrays (join_of g) counts 0 g.blocks gs.of f in
    let ends : AreEnds net ps = are_ends f.units net ps w (subst (λ l. AreEndsOf f.units l) (sym qs) q.ends) in
    let s = exit_stands g gs in
    let si = s.within in
    let n : next e ≡ length e.units = omega (arith, si, room) in
    let x : IsAtExit net (at (next e) 0) = record { within = omega (arith, n, si); exit = ap (λ i. is_exit (get_or net.units i (Sink 0))) n ∙ ap is_exit s.kind } in
    let once : (u : ℕ) → IsQueue net u → times u ps ≡ 1 = λ u i. ap (λ l. times u l) qs ∙ elim (cases_lt u (length f.units)) [
      | inl l ↦ q.once u (sym (ap is_lsq (w.same u l)) ∙ i.queue)
      | inr l ↦ absurd (false≢true (sym (w.none u l) ∙ i.queue))
    ] in
    let linked = chain_linked g gs in
    let in_one = one_in net room b in
    let out_one = one_out net room b in
    let start = begins_at_none net in_one out_one ps e.control (at (next e) 0) linked ends x once in
    record {
      targets = λ u i. ends_well net in_one out_one ps e.control (at (next e) 0) u linked ends x (let o = once u i in omega (arith, o));
      chain = onto ps [];
      walked = record { exit = next e; within = x.within; is_exit = x.exit; walk = walked net in_one out_one ps e.control (at (next e) 0) start linked ends };
      each = λ u i. met_once net in_one out_one ps u (once u i);
    }
