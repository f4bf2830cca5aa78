-- The head of a target keeps the balance: a merge and muxes, which wait for their edges, or the one edge that stands.
use Rattle.std.proofs.Common.{◌≡◌, ℕ, zero, suc, ◌+◌, ◌<◌, ◌≤◌, ◌^◌, List, [], ◌∷◌, ◌++◌, length, get_or, map, pred, Option, Some, None, true, false, refl, sym, ap, ◌∙◌, subst, arith, append_assoc, append-nil, length-append}
use Rattle.std.specs.Prelude.{All, slice_get}
use Rattle.std.proofs.lemmas.List.Elements.{All-nil, All-head, All-tail}
use Rattle.ir.specs.Shapes.{Shape, IsWidth}
use Rattle.net_types.specs.declared.net.Net.{Net}
use Rattle.net_types.specs.declared.net.Port.{Port}
use Rattle.net_types.specs.declared.net.Unit.TheVariants.{Cmerge, Mux, Fork}
use Rattle.net_types.specs.Nets.{at}
use Rattle.net_types.specs.Tables.{spots, array_width}
use Rattle.circuit_build.specs.declared.draft.Draft.{Draft}
use Rattle.circuit_build.specs.declared.draft.Edge.{Edge}
use Rattle.circuit_build.specs.declared.draft.End.{End}
use Rattle.circuit_build.specs.Drafts.{number, plus, next, with_control, defined, triggered, trigger_of, control_forked}
use Rattle.circuit_build.specs.Blocks.{mux_laid, muxes_laid, args_defined, merged, opened, ends_defined, passed_in, tail_of, head_by, head_laid}
use Rattle.circuit_build.proofs.CountBooks.{Weight, Sum, row, moved, lay_unit}
use Rattle.circuit_build.proofs.CountItems.{run, ends, WideIf, Open, shifted, triggered_open, forked_open, fed_books, defined_open}
use Rattle.circuit_build.proofs.CountSteps.{wide_of, open_as, carried, edges, owe_of, rest_of, Within, settled}
use Rattle.circuit_build.proofs.CountJumps.{widths, Between}
use Rattle.circuit_build.proofs.CountKept.{hsum_more, muxes_left, head_left, waits, edges_head, edges_taken, occurs, occurs_some, Kept, kept_merge, kept_lean, tail_is}
use Rattle.circuit_build.proofs.Fields as fields

pub all_get : {A : Type 0} (F : A → Type 0) (xs : List A) (n : ℕ) (x : A) → All F xs → slice_get xs n ≡ Some x → F x
all_get F [] n x a e = absurd (cc)
all_get F (y ∷ xs) zero x a e = let z : y ≡ x = cc in subst F z (All-head F y xs a)
all_get F (y ∷ xs) (suc n) x a e = all_get F xs n x (All-tail F y xs a) e

-- ---- muxes

abbrev args_sum : Weight → ℕ → List ℕ → ℕ
args_sum f m [] = 0
args_sum f m (w ∷ ws) = f (at m 0) w false + args_sum f (plus m 1) ws

muxes_open : {net : Net} {ws : Shape} {L : ℕ → ℕ} (ins t : ℕ) (args : List ℕ) (d : Draft) (r o o' : Sum) (m : ℕ) → All IsWidth args → m ≡ next d → ((f : Weight) → o' f ≡ o f + muxes_left f m args 0 ins) → Open net d o r ws L (length args + t)
    → Open net (muxes_laid ins args d) o' (λ f. args_sum f m args + r f) ws L t
muxes_open {net} {ws} {L} ins t [] d r o o' m a e s h = open_as (let z : 0 + t ≡ t = omega arith in z) (shifted o' (λ f. 0 + r f) h (λ f. let z = s f in omega (arith, z)) (λ f. omega arith))
muxes_open {net} {ws} {L} ins t (w ∷ args) d r o o' m a e s h =
    let c = triggered_open (open_as (let z : suc (length args) + t ≡ suc (length args + t) = omega arith in z) h) in
    let x = triggered d in
    let k = length args + t in
    let wide = wide_of w (All-head IsWidth w args a) in
    let b = lay_unit (Mux w ins) false (λ f. f (at m 0) 32 false + (o f + row f m (spots 1 w false ins))) (λ f. f d.control 32 true + run f x.trigger 32 k + ends f L d.ends + (f d.trigger 32 false + r f) + f (at m 0) w false) c.books wide
    (λ f. let p = ap (λ n. row f n (spots 1 w false ins)) e in let q = ap (λ n. f (at n 0) 32 false) e in omega (arith, p, q)) (λ f. let q = ap (λ n. f (at n 0) w false) e in omega (arith, q)) in
    let g = fed_books (trigger_of d) (next d) 0 32 (λ f. o f + row f m (spots 1 w false ins)) (λ f. f d.control 32 true + run f x.trigger 32 k + ends f L d.ends + (f (at m 0) w false + r f)) b refl (λ f. let q = ap (λ n. f (at n 0) 32 false) e in omega (arith, q)) (λ f. omega arith) in
    let y : Open net (mux_laid ins w d) (λ f. o f + row f m (spots 1 w false ins)) (λ f. f (at m 0) w false + r f) ws L k = record { books = g; fits = c.fits; wide = c.wide; ahead = c.ahead; few = c.few } in
    let l = length-append d.units (Mux w ins ∷ []) in
    let i = muxes_open ins t args (mux_laid ins w d) (λ f. f (at m 0) w false + r f) (λ f. o f + row f m (spots 1 w false ins)) o' (plus m 1) (All-tail IsWidth w args a) (omega (arith, l, e)) (λ f. let z = s f in omega (arith, z)) y in
    shifted o' (λ f. args_sum f m (w ∷ args) + r f) i (λ f. refl) (λ f. omega arith)

args_open : {net : Net} {o : Sum} {L : ℕ → ℕ} {k : ℕ} (u : ℕ) (args : List ℕ) (d : Draft) (r : Sum) (ws : Shape) → All IsWidth args → Open net d o (λ f. args_sum f u args + r f) ws L k → Open net (args_defined u args d) o r (ws ++ map Some args) L k
args_open {net} {o} {L} {k} u [] d r ws a h = subst (λ v. Open net d o r v L k) (sym (append-nil ws)) (shifted o r h (λ f. refl) (λ f. omega arith))
args_open {net} {o} {L} {k} u (w ∷ args) d r ws a h =
    let x = defined_open (at u 0) w (shifted o (λ f. f (at u 0) w false + (args_sum f (plus u 1) args + r f)) h (λ f. refl) (λ f. omega arith)) (wide_of w (All-head IsWidth w args a)) in
    let i = args_open (plus u 1) args (defined (at u 0) w d) r (ws ++ Some w ∷ []) (All-tail IsWidth w args a) x in
    subst (λ v. Open net (args_defined u (w ∷ args) d) o r v L k) (append_assoc ws (Some w ∷ []) (map Some args)) i

ends_open : {net : Net} {o : Sum} {L : ℕ → ℕ} {k : ℕ} (es : List End) (d : Draft) (r : Sum) (ws : Shape) → All IsWidth (widths es) → Open net d o (λ f. carried f es + r f) ws L k → Open net (ends_defined es d) o r (ws ++ map Some (widths es)) L k
ends_open {net} {o} {L} {k} [] d r ws a h = subst (λ v. Open net d o r v L k) (sym (append-nil ws)) (shifted o r h (λ f. refl) (λ f. omega arith))
ends_open {net} {o} {L} {k} (e ∷ es) d r ws a h =
    let w = e.width in
    let x = defined_open e.place w (shifted o (λ f. f e.place w false + (carried f es + r f)) h (λ f. refl) (λ f. omega arith)) (wide_of w (All-head IsWidth w (widths es) a)) in
    let i = ends_open es (defined e.place w d) r (ws ++ Some w ∷ []) (All-tail IsWidth w (widths es) a) x in
    subst (λ v. Open net (ends_defined (e ∷ es) d) o r v L k) (append_assoc ws (Some w ∷ []) (map Some (widths es))) i

-- ---- heads

fork_next : (k : ℕ) (d : Draft) → 0 < k → next (control_forked k d) ≡ plus (next d) 1
fork_next zero d s = absurd (omega (arith, s))
fork_next (suc k) d s = let l = length-append d.units (Fork 32 (plus (suc k) 1) ∷ []) in omega (arith, l)

muxes_at : (f : Weight) (args : List ℕ) (ins m n : ℕ) → (0 < length args → m ≡ n) → muxes_left f m args 0 ins ≡ muxes_left f n args 0 ins
muxes_at f [] ins m n h = refl
muxes_at f (w ∷ args) ins m n h = ap (λ k. muxes_left f k (w ∷ args) 0 ins) (h (omega arith))

module _ {tops : List (List ℕ)} {T : ℕ → ℕ} {N : ℕ} {C : ℕ → ℕ} {S : ℕ → Type 0} {K : Weight → ℕ → ℕ → ℕ} {P : ℕ → List Port} {G : ℕ → ℕ} where
  opened_within : (net : Net) (ins b : ℕ) (args us : List ℕ) (t : ℕ) (d : Draft) → All IsWidth args → 0 < length d.units → t + length args + 4 < 2 ^ 32 → ((v : ℕ) → get_or us v 0 < 2 ^ 32) → ((f : Weight) (h : ℕ) → K f b h ≡ waits f h args 0 ins) → Between net S K (Kept tops T b N C) P G d
      → Within net S K (Kept tops T (suc b) N C) P G (opened ins args t (record d { uses = us; ends = [] })) (map Some args) (λ v. get_or us v 0) t
  opened_within net ins b args us t d a some few each wait h =
      let n = next d in
      let d0 : Draft = record d { uses = us; ends = [] } in
      let m = merged ins d0 in
      let L : ℕ → ℕ = λ v. get_or us v 0 in
      let W : ℕ → ℕ = array_width net.arrays in
      let o1 : Sum = λ f. owe_of net K P G d f + row f n (spots 0 32 true ins) in
      let y = lay_unit (Cmerge ins) false o1 (λ f. f (at n 0) 32 true + 0 + 0 + rest_of net P G d f) h.books refl (λ f. refl) (λ f. omega arith) in
      let x : Open net m o1 (rest_of net P G d) [] L 0 = record { books = y; fits = record { long = refl; found = λ v w i s. absurd (cc) }; wide = All-nil WideIf; ahead = λ v l. refl; few = each } in
      let k = plus t (number (length args)) in
      let kl : k ≡ length args + t = omega (arith, few) in
      let e = control_forked k m in
      let g = open_as kl (forked_open k (omega (arith, few)) x) in
      let u = next e in
      let o2 : Sum = λ f. o1 f + muxes_left f u args 0 ins in
      let q = muxes_open ins t args e (rest_of net P G d) o1 o2 u a refl (λ f. refl) g in
      let z = muxes_laid ins args e in
      let v = args_open u args z (rest_of net P G d) [] a q in
      let l = length-append d.units (Cmerge ins ∷ []) in
      let pos : number (length d.units) ≡ suc (pred n) = omega (arith, some) in
      let s1 = fields.forked_still k m in
      let s2 = fields.muxes_still ins args e in
      let s3 = fields.args_still u args z in
      let s = fields.still_then m z (args_defined u args z) (fields.still_then m e z s1 s2) s3 in
      settled m (args_defined u args z) s.kept s.queues
      (subst (λ p. Kept tops T (suc b) N C d.edges (d.heads ++ p ∷ []) d.tails) (sym pos) (kept_merge (pred n) h.kept)) h.stored
      (shifted (owe_of net K P G m) (rest_of net P G m) v
      (λ f. let p1 = hsum_more (K f) d.heads n in
      let p2 = ap (λ c. K f c n) h.kept.heads in
      let p3 = wait f n in
      let p4 = ap (λ c. waits f c args 0 ins) pos in
      let p5 = ap (λ c. head_left f c args 0 ins) pos in
      let p6 = muxes_at f args ins u (plus n 2) (λ s. let i = fork_next k m (omega (arith, s, kl)) in omega (arith, i, l)) in
      omega (arith, p1, p2, p3, p4, p5, p6))
      (λ f. let p1 = ap (λ c. edges f (d.heads ++ c ∷ []) d.edges) pos in let p2 = edges_head f d.heads (pred n) d.edges in omega (arith, p1, p2)))

  passed_within : (net : Net) (b : ℕ) (args us : List ℕ) (t : ℕ) (d : Draft) (x : Edge) → All IsWidth args → slice_get tops b ≡ Some args → t + 4 < 2 ^ 32 → ((v : ℕ) → get_or us v 0 < 2 ^ 32) → ((f : Weight) → K f b 0 ≡ 0) → T b ≤ 1 → C b ≤ T b → (n : ℕ) → slice_get d.edges n ≡ Some x → x.to ≡ b
      → Between net S K (Kept tops T b N C) P G d → Within net S K (Kept tops T (suc b) N C) P G (passed_in x t (record d { uses = us; ends = [] })) (map Some args) (λ v. get_or us v 0) t
  passed_within net b args us t d x a top few each wait most less n is to h =
      let d0 : Draft = record d { uses = us; ends = [] } in
      let m : Draft = record (with_control x.control d0) { heads = d.heads ++ 0 ∷ [] } in
      let L : ℕ → ℕ = λ v. get_or us v 0 in
      let fit = all_get (λ (e : Edge). slice_get tops e.to ≡ Some (widths e.with)) d.edges n x h.kept.fit is in
      let w : widths x.with ≡ args = some (sym fit ∙ ap (λ k. slice_get tops k) to ∙ top) in
      let lh = h.kept.heads in
      let some_edge = occurs_some b d.edges n x is to in
      let c = h.kept.count b in
      let one : occurs (length d.heads) d.edges ≡ 1 = ap (λ k. occurs k d.edges) lh ∙ (let z : occurs b d.edges ≡ 1 = omega (arith, some_edge, c, most, less) in z) in
      let o : Open net m (owe_of net K P G m) (λ f. carried f x.with + rest_of net P G m f) [] L 0 = record {
        books = moved (owe_of net K P G m) (λ f. f x.control 32 true + 0 + 0 + (carried f x.with + rest_of net P G m f)) h.books
            (λ f. let p = hsum_more (K f) d.heads 0 in let q = ap (λ k. K f k 0) lh in let z = wait f in omega (arith, p, q, z))
            (λ f. let p = edges_taken f d.heads d.edges n x is (to ∙ sym lh) one in omega (arith, p));
        fits = record { long = refl; found = λ v w i s. absurd (cc) };
        wide = All-nil WideIf;
        ahead = λ v l. refl;
        few = each;
      } in
      let g = forked_open t (omega (arith, few)) o in
      let e = control_forked t m in
      let v = ends_open x.with e (rest_of net P G m) [] (subst (All IsWidth) (sym w) a) g in
      let s1 = fields.forked_still t m in
      let s2 = fields.ends_still x.with e in
      let s = fields.still_then m e (ends_defined x.with e) s1 s2 in
      settled m (ends_defined x.with e) s.kept s.queues (kept_lean (let z : T b ≤ C b = omega (arith, some_edge, c, most) in z) h.kept) h.stored
      (subst (λ l. Open net (ends_defined x.with e) (owe_of net K P G m) (rest_of net P G m) (map Some l) L t) w v)
    where
      some : {a b : List ℕ} → Some a ≡ Some b → a ≡ b
      some e = cc

  pub head_within : (net : Net) (ins b : ℕ) (args us : List ℕ) (t : ℕ) (d : Draft) → All IsWidth args → slice_get tops b ≡ Some args → 0 < length d.units → t + length args + 4 < 2 ^ 32 → ((v : ℕ) → get_or us v 0 < 2 ^ 32) → ((f : Weight) (h : ℕ) → K f b h ≡ waits f h args 0 ins) → T b ≡ ins → C b ≤ T b
      → Between net S K (Kept tops T b N C) P G d → Within net S K (Kept tops T (suc b) N C) P G (head_laid ins b args us t d) (map Some args) (λ v. get_or us v 0) t
  head_within net ins b args us t d a top some few each wait total less h = by (tail_of ins b d) refl
    where
      by : (x : Option Edge) → tail_of ins b d ≡ x → Within net S K (Kept tops T (suc b) N C) P G (head_by x ins args t (record d { uses = us; ends = [] })) (map Some args) (λ v. get_or us v 0) t
      by None e = opened_within net ins b args us t d a some few each wait h
      by (Some x) e =
          let i = tail_is ins b d x h.kept e in
          let j = i.one in
          passed_within net b args us t d x a top (omega (arith, few)) each (λ f. wait f 0) (omega (arith, j, total)) less i.number i.is i.to h
