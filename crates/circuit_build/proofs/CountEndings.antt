-- What is laid after the blocks keeps the balance: the feeders, the ends of the queues, and the exit.
use Rattle.std.proofs.Common.{◌≡◌, ◌≢◌, ℕ, zero, suc, ◌+◌, ◌<◌, ◌≤◌, ◌^◌, List, [], ◌∷◌, ◌++◌, length, get_or, set, map, max, true, false, Option, Some, None, refl, sym, ap, ◌∙◌, subst, inl, inr, arith}
use Rattle.std.specs.Prelude.{All, IsTrue, slice_get, cond, ◌&&◌, nat_lt}
use Rattle.std.proofs.lemmas.Bool.{eq-eqb, ne_eqb}
use Rattle.std.proofs.lemmas.List.Elements.{All-head, All-tail}
use Rattle.el_base.specs.declared.ty.Ty.{Ty}
use Rattle.el_base.specs.Widths.{ty_width}
use Rattle.ir.specs.declared.graph.Block.{Block}
use Rattle.ir.specs.Shapes.{Shape, IsWidth}
use Rattle.ir.specs.Graphs.{Graph, IsBlock}
use Rattle.net_types.specs.declared.net.Net.{Net}
use Rattle.net_types.specs.declared.net.Port.{Port}
use Rattle.net_types.specs.declared.net.Unit.TheVariants.{Branch, Const, Exit, Fork}
use Rattle.net_types.specs.Nets.{at}
use Rattle.net_types.specs.Tables.{result_in, array_width}
use Rattle.net_types.specs.Rules.{is_width}
use Rattle.circuit_build.specs.declared.draft.Draft.{Draft}
use Rattle.circuit_build.specs.declared.draft.Edge.{Edge}
use Rattle.circuit_build.specs.declared.draft.Queue.{Queue}
use Rattle.circuit_build.specs.Drafts.{number, plus, next, end_of, with_unit, with_chan, with_control, used, control_forked, triggered, trigger_of}
use Rattle.circuit_build.specs.Steps.{queue_or, through_queue}
use Rattle.circuit_build.specs.Endings.{result_widths, ones, all_ended, exited, zero_laid, zeros_laid, zero_ends, fed_by_itself, feeder_laid, feeder_if, feeders_laid}
use Rattle.circuit_build.proofs.CountBooks.{Weight, Sum, row, Books, moved, lay_unit, lay_chan}
use Rattle.circuit_build.proofs.CountItems.{run, ends, ends_none, ends_used, Open, shifted, fork_outs, through_open, fed_books}
use Rattle.circuit_build.proofs.CountQueues.{qsum, queues_in, queues_out}
use Rattle.circuit_build.proofs.CountSteps.{carried, is_zero, edges, hsum, owe_of, rest_of, EdgesFact, Within}
use Rattle.circuit_build.proofs.CountJumps.{widths, Adds, Between, edges_more}
use Rattle.circuit_build.proofs.CountKept.{Kept, kept_as, adds}
use Rattle.circuit_build.proofs.Fields as fields
use Rattle.circuit_build.proofs.Remains.{one_if, one_own, one_other, one_most}

-- ---- the ends of the queues

abbrev ends_left : Weight → List (Option Queue) → ℕ
ends_left f qs = qsum (λ a q. f (at q.unit q.groups) 32 true + 0 + 0) qs

all_ended_open : {net : Net} {ws : Shape} {L : ℕ → ℕ} (qs : List (Option Queue)) (d : Draft) (o r : Sum) → Open net d (λ f. ends_left f qs + o f) (λ f. ends_left f qs + r f) ws L 0 → Open net (all_ended qs d) o r ws L 0
all_ended_open [] d o r h = shifted o r h (λ f. omega arith) (λ f. omega arith)
all_ended_open (None ∷ qs) d o r h = all_ended_open qs d o r h
all_ended_open (Some q ∷ qs) d o r h = all_ended_open qs (through_queue q q.groups d) o r (through_open q q.groups (λ f. ends_left f qs + o f) (λ f. ends_left f qs + r f) h (λ f. omega arith) (λ f. omega arith))

all_ended_kept : (qs : List (Option Queue)) (d : Draft) → fields.Kept d (all_ended qs d)
all_ended_kept [] d = fields.kept_own d
all_ended_kept (None ∷ qs) d = all_ended_kept qs d
all_ended_kept (Some q ∷ qs) d = let i = all_ended_kept qs (through_queue q q.groups d) in record { uses = i.uses; edges = i.edges; heads = i.heads; tails = i.tails }

-- ---- the exit

-- nothing is open but the edges that no head has taken, and nothing waits but the heads
pub record Standing (net : Net) (K : Weight → ℕ → ℕ → ℕ) (J : EdgesFact) (d : Draft) : Type 0 where
  pub books : Books net d.units d.chans (λ f. hsum (K f) d.heads) (λ f. edges f d.heads d.edges)
  pub kept : J d.edges d.heads d.tails

exited_books : {net : Net} {o r : Sum} (t : Option Ty) (d : Draft) → net.result ≡ t → Open net d o r (map Some (result_widths t)) (λ v. get_or (ones (result_widths t)) v 0) 0 → Books net (exited t d).units (exited t d).chans o r
exited_books {net} {o} {r} None d e h =
    let n = next d in
    let L : ℕ → ℕ = λ v. get_or (ones (result_widths None)) v 0 in
    let b = lay_unit Exit false (λ f. f (at n 0) 32 true + o f) (λ f. f d.control 32 true + 0 + ends f L d.ends + r f) h.books refl (λ f. let x = ap (λ t. row f n (result_in t)) e in omega (arith, x)) (λ f. omega arith) in
    lay_chan d.control (at n 0) 32 true o r b (λ f. refl) (λ f. let x = ends_none f d.ends L (λ v l. absurd (let y = h.fits.long in omega (arith, y, l))) in omega (arith, x))
exited_books {net} {o} {r} (Some t) d e h =
    let n = next d in
    let w = ty_width t in
    let L : ℕ → ℕ = λ v. get_or (ones (result_widths (Some t))) v 0 in
    let found = h.fits.found 0 w refl (omega arith) in
    let b = lay_unit Exit false (λ f. f (at n 0) 32 true + (f (at n 1) w false + o f)) (λ f. f d.control 32 true + 0 + ends f L d.ends + r f) h.books refl (λ f. let y = ap (λ t. row f n (result_in t)) e in omega (arith, y)) (λ f. omega arith) in
    let c = lay_chan d.control (at n 0) 32 true (λ f. f (at n 1) w false + o f) (λ f. ends f L d.ends + r f) b (λ f. refl) (λ f. omega arith) in
    fed_books (end_of d.ends 0) n 1 w o r c found.width (λ f. refl) (λ f. let x = ends_used f d.ends 0 L (λ v. 0) found.here one in let y = ends_none f (used 0 d.ends) (λ v. 0) (λ v l. refl) in let z = ap (λ v. f (end_of d.ends 0).place v false) found.width in omega (arith, x, y, z))
  where
    one : (u : ℕ) → get_or (ones (ty_width t ∷ [])) u 0 ≡ 0 + one_if 0 u
    one zero = refl
    one (suc u) = let x = one_other 0 (suc u) (λ e. absurd (omega (arith, e))) in omega (arith, x)

exited_kept : (t : Option Ty) (d : Draft) → fields.Kept d (exited t d)
exited_kept None d = record { uses = refl; edges = refl; heads = refl; tails = refl }
exited_kept (Some t) d = record { uses = refl; edges = refl; heads = refl; tails = refl }

pub ended_standing : {net : Net} {S : ℕ → Type 0} {K : Weight → ℕ → ℕ → ℕ} {J : EdgesFact} (t : Option Ty) (d : Draft) → net.result ≡ t → Within net S K J (λ a. []) (λ a. 0) d (map Some (result_widths t)) (λ v. get_or (ones (result_widths t)) v 0) 0 → Standing net K J (exited t (all_ended d.queues d))
ended_standing {net} {S} {K} {J} t d e h =
    let o : Sum = λ f. hsum (K f) d.heads in
    let r : Sum = λ f. edges f d.heads d.edges in
    let s = shifted (λ f. ends_left f d.queues + o f) (λ f. ends_left f d.queues + r f) h.open_ends (λ f. omega arith) (λ f. omega arith) in
    let a = all_ended_open d.queues d o r s in
    let x = all_ended d.queues d in
    let b = exited_books t x e a in
    let k = fields.kept_then d x (exited t x) (all_ended_kept d.queues d) (exited_kept t x) in
    let z = exited t x in
    record {
      books = moved (λ f. hsum (K f) z.heads) (λ f. edges f z.heads z.edges) b (λ f. ap (λ hs. hsum (K f) hs) (sym k.heads)) (λ f. ap (λ hs. edges f hs d.edges) (sym k.heads) ∙ ap (λ es. edges f z.heads es) (sym k.edges));
      kept = subst (λ ts. J z.edges z.heads ts) (sym k.tails) (subst (λ hs. J z.edges hs d.tails) (sym k.heads) (subst (λ es. J es d.heads d.tails) (sym k.edges) h.kept));
    }

-- ---- feeders

record Feeding (net : Net) (d : Draft) (owe rest : Sum) (k : ℕ) : Type 0 where
  books : Books net d.units d.chans owe (λ f. f d.control 32 true + run f d.trigger 32 k + rest f)

trigger_feeding : {net : Net} {d : Draft} {o r : Sum} {k : ℕ} → Feeding net d o r (suc k) → Feeding net (triggered d) o (λ f. f d.trigger 32 false + r f) k
trigger_feeding {net} {d} {o} {r} {k} h = record { books = moved o (λ f. f d.control 32 true + run f (triggered d).trigger 32 k + (f d.trigger 32 false + r f)) h.books (λ f. refl) (λ f. omega arith) }

forked_feeding : {net : Net} {d : Draft} {o r : Sum} (k : ℕ) → k + 2 < 2 ^ 32 → Feeding net d o r 0 → Feeding net (control_forked k d) o r k
forked_feeding zero few h = h
forked_feeding {net} {d} {o} {r} (suc k) few h =
    let n = next d in
    let m = plus (suc k) 1 in
    let b = lay_unit (Fork 32 m) true (λ f. o f + f (at n 0) 32 true) (λ f. f d.control 32 true + r f + f (at n 0) 32 true + run f (at n 1) 32 (suc k)) h.books refl (λ f. omega arith)
    (λ f. let x = fork_outs net f n m (suc k) (omega (arith, few)) (omega (arith, few)) in omega (arith, x)) in
    record { books = lay_chan d.control (at n 0) 32 true o (λ f. f (at n 0) 32 true + run f (at n 1) 32 (suc k) + r f) b (λ f. omega arith) (λ f. omega arith) }

zero_fits : (w : ℕ) → IsWidth w → IsTrue (is_width w && nat_lt 0 (2 ^ w))
zero_fits w (inl e) = rw e refl
zero_fits w (inr (inl e)) = rw e refl
zero_fits w (inr (inr (inl e))) = rw e refl
zero_fits w (inr (inr (inr e))) = rw e refl

zeros_feeding : {net : Net} {o : Sum} (args : List ℕ) (d : Draft) (r : Sum) → All IsWidth args → Feeding net d o r (length args) → Feeding net (zeros_laid args d) o (λ f. carried f (zero_ends args d) + r f) 0
zeros_feeding {net} {o} [] d r a h = record { books = moved o (λ f. f d.control 32 true + 0 + (0 + r f)) h.books (λ f. refl) (λ f. omega arith) }
zeros_feeding {net} {o} (w ∷ args) d r a h =
    let t = trigger_feeding h in
    let e = triggered d in
    let n = next d in
    let k = length args in
    let b = lay_unit (Const w 0) false (λ f. f (at n 0) 32 false + o f) (λ f. f d.control 32 true + run f e.trigger 32 k + (f d.trigger 32 false + r f) + f (at n 0) w false) t.books (zero_fits w (All-head IsWidth w args a)) (λ f. omega arith) (λ f. omega arith) in
    let c = fed_books (trigger_of d) n 0 32 o (λ f. f d.control 32 true + run f e.trigger 32 k + (f (at n 0) w false + r f)) b refl (λ f. refl) (λ f. omega arith) in
    let i = zeros_feeding args (zero_laid w d) (λ f. f (at n 0) w false + r f) (All-tail IsWidth w args a) (record { books = c }) in
    let x = zeros_laid args (zero_laid w d) in
    record { books = moved o (λ f. f x.control 32 true + 0 + (carried f (zero_ends (w ∷ args) d) + r f)) i.books (λ f. refl) (λ f. omega arith) }

zeros_still : (args : List ℕ) (d : Draft) → fields.Still d (zeros_laid args d)
zeros_still [] d = fields.still_own d
zeros_still (w ∷ args) d =
    let i = zeros_still args (zero_laid w d) in
    record { kept = record { uses = i.kept.uses; edges = i.kept.edges; heads = i.kept.heads; tails = i.kept.tails }; queues = i.queues }

pub feeder_queues : (t : ℕ) (args : List ℕ) (d : Draft) → (feeder_laid t args d).queues ≡ d.queues
feeder_queues t args d =
    let m = number (length args) in
    let n = next d in
    let e = with_control (at n 0) (with_chan (at n 1) (at n 1) 32 true (with_unit (Branch 32) d)) in
    (zeros_still args (fed_by_itself m d)).queues ∙ (fields.forked_still (plus m 1) e).queues

zeros_widths : (args : List ℕ) (d : Draft) → widths (zero_ends args d) ≡ args
zeros_widths [] d = refl
zeros_widths (w ∷ args) d = ap (λ l. w ∷ l) (zeros_widths args (zero_laid w d))

module _ {net : Net} {S : ℕ → Type 0} {K : Weight → ℕ → ℕ → ℕ} {P : ℕ → List Port} {G : ℕ → ℕ} where
  feeder_between : {J M : EdgesFact} (t : ℕ) (args : List ℕ) (d : Draft) → All IsWidth args → length args + 4 < 2 ^ 32 → Adds J t args M → Between net S K J P G d → Between net S K M P G (feeder_laid t args d)
  feeder_between {J} {M} t args d a few add h =
      let n = next d in
      let m = number (length args) in
      let W : ℕ → ℕ = array_width net.arrays in
      let o = owe_of net K P G d in
      let r = rest_of net P G d in
      let b1 = lay_unit (Branch 32) true (λ f. f (at n 1) 32 true + (f (at n 0) 32 false + o f)) (λ f. f (at n 1) 32 true + (f (at n 0) 32 true + r f)) h.books refl (λ f. omega arith) (λ f. omega arith) in
      let b2 = lay_chan (at n 1) (at n 1) 32 true (λ f. f (at n 0) 32 false + o f) (λ f. f (at n 0) 32 true + 0 + r f) b1 (λ f. refl) (λ f. omega arith) in
      let e = with_control (at n 0) (with_chan (at n 1) (at n 1) 32 true (with_unit (Branch 32) d)) in
      let s : Feeding net e (λ f. f (at n 0) 32 false + o f) r 0 = record { books = b2 } in
      let k = plus m 1 in
      let kl : k ≡ suc (length args) = omega (arith, few) in
      let g = control_forked k e in
      let u = trigger_feeding (feeding_as kl (forked_feeding k (omega (arith, few)) s)) in
      let b3 = fed_books (trigger_of g) n 0 32 o (λ f. f g.control 32 true + run f (triggered g).trigger 32 (length args) + r f) u.books refl (λ f. refl) (λ f. omega arith) in
      let c = fed_by_itself m d in
      let z = zeros_feeding args c r a (record { books = b3 }) in
      let x = zeros_laid args c in
      let s1 = fields.forked_still k e in
      let s2 = zeros_still args c in
      let ke : x.edges ≡ d.edges = s2.kept.edges ∙ s1.kept.edges in
      let kh : x.heads ≡ d.heads = s2.kept.heads ∙ s1.kept.heads in
      let kt : x.tails ≡ d.tails = s2.kept.tails ∙ s1.kept.tails in
      let kq : x.queues ≡ d.queues = s2.queues ∙ s1.queues in
      let edge : Edge = record { to = t; control = x.control; with = zero_ends args c } in
      let y = feeder_laid t args d in
      let free = add.free d.edges d.heads d.tails h.kept in
      record {
        books = moved (owe_of net K P G y) (rest_of net P G y) z.books
            (λ f. ap (λ hs. hsum (K f) hs + queues_in f W P G d.queues) (sym kh) ∙ ap (λ qs. hsum (K f) x.heads + queues_in f W P G qs) (sym kq))
            (λ f. let p = edges_more f x.heads x.edges edge in
            let q = ap (λ b. cond b 0 (f x.control 32 true + carried f (zero_ends args c))) (ap (λ hs. is_zero (slice_get hs t)) kh ∙ free) in
            let v = ap (λ hs. edges f hs x.edges) kh in
            let w = ap (λ l. edges f d.heads l) ke in
            let i = ap (λ qs. queues_out f W P G qs) kq in
            omega (arith, p, q, v, w, i));
        kept = subst (λ ts. M (x.edges ++ edge ∷ []) x.heads (set ts t (number (length (x.edges ++ edge ∷ []))))) (sym kt)
            (subst (λ hs. M (x.edges ++ edge ∷ []) hs (set d.tails t (number (length (x.edges ++ edge ∷ []))))) (sym kh)
            (subst (λ l. M (l ++ edge ∷ []) d.heads (set d.tails t (number (length (l ++ edge ∷ []))))) (sym ke) (add.more edge d.edges d.heads d.tails refl (zeros_widths args c) h.kept)));
        stored = λ a n. h.stored a (ap (λ qs. queue_or (slice_get qs a)) (sym kq) ∙ n);
      }
    where
      feeding_as : {d : Draft} {o r : Sum} {k j : ℕ} → k ≡ j → Feeding net d o r k → Feeding net d o r j
      feeding_as {d} {o} {r} e h = subst (λ n. Feeding net d o r n) e h

-- one edge more for a target that has none
abbrev pub fed_one : ℕ → ℕ → ℕ → ℕ
fed_one zero t u = one_if t u
fed_one (suc n) t u = 0

abbrev pub feeders : List ℕ → ℕ → List Block → ℕ → ℕ
feeders counts b [] u = 0
feeders counts b (k ∷ ks) u = fed_one (get_or counts b 0) b u + feeders counts (plus b 1) ks u

module _ {net : Net} {S : ℕ → Type 0} {K : Weight → ℕ → ℕ → ℕ} {P : ℕ → List Port} {G : ℕ → ℕ} (tops : List (List ℕ)) (T : ℕ → ℕ) (H : ℕ) where
  pub if_between : (N : ℕ) (C : ℕ → ℕ) (n t : ℕ) (args : List ℕ) (d : Draft) → All IsWidth args → length args + 4 < 2 ^ 32 → slice_get tops t ≡ Some args → ((u : ℕ) → C u + fed_one n t u ≤ T u) → N + 2 < 2 ^ 32 → Between net S K (Kept tops T H N C) P G d
      → Between net S K (Kept tops T H (suc N) (λ u. C u + fed_one n t u)) P G (feeder_if n t args d)
  if_between N C zero t args d a few e less room h = feeder_between t args d a few (adds tops T H N C t args e (let l = less t in let o = one_own t in omega (arith, l, o)) room) h
  if_between N C (suc n) t args d a few e less room h = record { books = h.books; kept = kept_as h.kept (omega arith) (λ u. omega arith); stored = h.stored }

  pub feeders_between : (g : Graph) (counts : List ℕ) (ks : List Block) (b : ℕ) (d : Draft) (N : ℕ) (C : ℕ → ℕ) → All (IsBlock g) ks → All (λ k. length k.args + 4 < 2 ^ 32) ks → ((i : ℕ) (k : Block) → slice_get ks i ≡ Some k → slice_get tops (b + i) ≡ Some k.args) → b + length ks < 2 ^ 32
      → ((u : ℕ) → C u + feeders counts b ks u ≤ T u) → N + length ks + 2 < 2 ^ 32 → Between net S K (Kept tops T H N C) P G d → Between net S K (Kept tops T H (N + length ks) (λ u. C u + feeders counts b ks u)) P G (feeders_laid counts b ks d)
  feeders_between g counts [] b d N C a r t few less room h = record { books = h.books; kept = kept_as h.kept (omega arith) (λ u. omega arith); stored = h.stored }
  feeders_between g counts (k ∷ ks) b d N C a r t few less room h =
      let block = All-head (IsBlock g) k ks a in
      let n = get_or counts b 0 in
      let here : slice_get tops b ≡ Some k.args = ap (λ m. slice_get tops m) (let z : b ≡ b + 0 = omega arith in z) ∙ t 0 k refl in
      let x = if_between N C n b k.args d block.args (All-head (λ k. length k.args + 4 < 2 ^ 32) k ks r) here (λ u. let l = less u in omega (arith, l)) (omega (arith, room)) h in
      let next : plus b 1 ≡ suc b = omega (arith, few) in
      let i = feeders_between g counts ks (plus b 1) (feeder_if n b k.args d) (suc N) (λ u. C u + fed_one n b u) (All-tail (IsBlock g) k ks a) (All-tail (λ k. length k.args + 4 < 2 ^ 32) k ks r)
      (λ i q e. ap (λ m. slice_get tops m) (let z : plus b 1 + i ≡ b + suc i = omega (arith, next) in z) ∙ t (suc i) q e) (omega (arith, next, few)) (λ u. let l = less u in omega (arith, l)) (omega (arith, room)) x in
      record { books = i.books; kept = kept_as i.kept (omega arith) (λ u. omega arith); stored = i.stored }

-- ---- how many feeders a target has

pub fed_most : (n t u : ℕ) → fed_one n t u ≤ 1
fed_most zero t u = one_most t u
fed_most (suc n) t u = omega arith

pub fed_other : (n t u : ℕ) → t ≢ u → fed_one n t u ≡ 0
fed_other zero t u e = ap (λ b. cond b 1 0) (ne_eqb t u e)
fed_other (suc n) t u e = refl

pub fed_max : (n t : ℕ) → n + fed_one n t t ≡ max 1 n
fed_max zero t = let e : one_if t t ≡ 1 = ap (λ b. cond b 1 0) (eq-eqb t t refl) in omega (arith, e)
fed_max (suc n) t = omega arith

pub feeders_most : (counts : List ℕ) (ks : List Block) (b u : ℕ) → feeders counts b ks u ≤ length ks
feeders_most counts [] b u = omega arith
feeders_most counts (k ∷ ks) b u = let x = fed_most (get_or counts b 0) b u in let y = feeders_most counts ks (plus b 1) u in omega (arith, x, y)

feeders_before : (counts : List ℕ) (ks : List Block) (b u : ℕ) → u < b → b + length ks < 2 ^ 32 → feeders counts b ks u ≡ 0
feeders_before counts [] b u l few = refl
feeders_before counts (k ∷ ks) b u l few = let x = fed_other (get_or counts b 0) b u (λ e. absurd (omega (arith, e, l))) in let y = feeders_before counts ks (plus b 1) u (omega arith) (omega arith) in omega (arith, x, y)

pub feeders_after : (counts : List ℕ) (ks : List Block) (b u : ℕ) → b + length ks ≤ u → b + length ks < 2 ^ 32 → feeders counts b ks u ≡ 0
feeders_after counts [] b u l few = refl
feeders_after counts (k ∷ ks) b u l few = let x = fed_other (get_or counts b 0) b u (λ e. absurd (omega (arith, e, l))) in let y = feeders_after counts ks (plus b 1) u (omega arith) (omega arith) in omega (arith, x, y)

pub feeders_at : (counts : List ℕ) (ks : List Block) (b u i : ℕ) → u ≡ b + i → i < length ks → b + length ks < 2 ^ 32 → feeders counts b ks u ≡ fed_one (get_or counts u 0) u u
feeders_at counts [] b u i e l few = absurd (omega arith)
feeders_at counts (k ∷ ks) b u zero e l few =
    let z : b ≡ u = omega (arith, e) in
    let x = ap (λ n. fed_one (get_or counts n 0) n u) z in
    let y = feeders_before counts ks (plus b 1) u (omega (arith, e, few)) (omega arith) in
    omega (arith, x, y)
feeders_at counts (k ∷ ks) b u (suc i) e l few =
    let x = fed_other (get_or counts b 0) b u (λ n. absurd (omega (arith, e, n))) in
    let y = feeders_at counts ks (plus b 1) u i (omega (arith, e, few)) (omega arith) (omega arith) in
    omega (arith, x, y)
