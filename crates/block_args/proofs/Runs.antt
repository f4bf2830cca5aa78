-- A run of the graph over variables is one of the graph over arguments, visit by visit.
use Rattle.std.proofs.Common.{◌≡◌, ℕ, zero, suc, ◌+◌, ◌-◌, ◌*◌, ◌<◌, ◌≤◌, List, [], ◌∷◌, ◌++◌, map, length, get_or, take, drop, Option, Some, refl, sym, ◌∙◌, ap, subst, arith, length-append, append_assoc, append-nil}
use Rattle.std.specs.Prelude.{slice_get, replicate, set}
use Rattle.std.specs.List.{Contains}
use Rattle.std.proofs.lemmas.Option.{get_or_from_slice_get, slice_get-get_or, same_Some}
use Rattle.std.proofs.Math.Nat.{suc-mul, mul-le-mul_right}
use Rattle.std.proofs.lemmas.Grind.{same_number_lists}
use Rattle.std.proofs.lemmas.List.{get_or-map, length-map, length-set, length-replicate, length-take, length-drop}
use Rattle.ir.specs.declared.instr.Instr.{Instr}
use Rattle.ir.specs.declared.graph.Block.{Block}
use Rattle.ir.specs.declared.cfg.CfgBlock.{CfgBlock}
use Rattle.ir.specs.declared.cfg.CfgJump.{CfgJump}
use Rattle.ir.specs.declared.cfg.CfgJump.TheVariants.{Go, Two, Return}
use Rattle.ir.specs.declared.cfg.Write.{Write}
use Rattle.ir.specs.Steps.{Work, value_at, after_step, through, beginning}
use Rattle.ir.specs.Visits.{Visit, Onward, onto, leaves, Passage, next_of, next_visit, Finishes, over_visits, strays_of}
use Rattle.ir.specs.Finished.{Finished}
use Rattle.ir.specs.Graphs.{Graph, side, no_block, block_at, passage, first_visit, onward_of, block_weight, handed_on, weight}
use Rattle.ir.specs.Variables.{VarGraph, IsVarGraph, read_values, written, var_onward, no_var_block, var_block_at, var_passage, var_first_visit, steps_made}
use Rattle.block_args.specs.Live.{targets}
use Rattle.block_args.specs.Tables.{Serves, count_from, held_at, listed_at}
use Rattle.block_args.specs.Arguments.{handed_to, new_jump, new_steps, zeros, new_block, new_blocks, argued}
use Rattle.block_args.proofs.Held.{length_count, get_count}
use Rattle.block_args.proofs.Passages.{Handed, lowered, same, jump_same}
use Rattle.block_args.proofs.Named.{names, hands, target, few_listed}

-- ---- the new blocks

pub new_at : (s : ℕ) (vars : List ℕ) (table : List (List ℕ)) (i n : ℕ) (bs : List CfgBlock) (x : CfgBlock) → slice_get bs n ≡ Some x
    → slice_get (new_blocks s vars table i bs) n ≡ Some (new_block s vars table (i + n) x)
new_at s vars table i n [] x h = absurd (cc)
new_at s vars table i zero (b ∷ bs) x h =
    ap (λ y. Some (new_block s vars table i y)) (same_Some b x h) ∙ ap (λ k. Some (new_block s vars table k x)) (let e : i ≡ i + 0 = omega arith in e)
new_at s vars table i (suc n) (b ∷ bs) x h =
    new_at s vars table (suc i) n bs x h ∙ ap (λ k. Some (new_block s vars table k x)) (let e : suc i + n ≡ i + suc n = omega arith in e)

pub new_block_at : (g : VarGraph) (table : List (List ℕ)) (n : ℕ) (x : CfgBlock) → slice_get g.blocks n ≡ Some x → block_at (argued g table) n ≡ new_block (length g.scalars) g.vars table n x
new_block_at g table n x h =
    let s = length g.scalars in
    get_or_from_slice_get (new_blocks s g.vars table 0 g.blocks) n (new_block s g.vars table n x) no_block
    (new_at s g.vars table 0 n g.blocks x h ∙ ap (λ k. Some (new_block s g.vars table k x)) (let e : 0 + n ≡ n = omega arith in e))

-- ---- block 0

through_append : (is js : List Instr) (w : Work) → through (is ++ js) w ≡ through js (through is w)
through_append [] js w = refl
through_append (i ∷ is) js w = through_append is js (after_step i w)

zeroed : (ws : List ℕ) (vs : List ℕ) (arrays : List (List ℕ)) (strays : ℕ)
    → through (zeros ws) (record { values = vs; arrays = arrays; strays = strays }) ≡ record { values = vs ++ replicate (length ws) 0; arrays = arrays; strays = strays }
zeroed [] vs arrays strays = ap (λ l. record { values = l; arrays = arrays; strays = strays }) (sym (append-nil vs))
zeroed (x ∷ ws) vs arrays strays =
    ap (λ n. through (zeros ws) (record { values = vs ++ 0 ∷ []; arrays = arrays; strays = n })) (let e : strays + 0 ≡ strays = omega arith in e)
    ∙ zeroed ws (vs ++ 0 ∷ []) arrays strays
    ∙ ap (λ l. record { values = l; arrays = arrays; strays = strays }) (append_assoc vs (0 ∷ []) (replicate (length ws) 0))

pub own_values : (n : ℕ) (vs : List ℕ) → length vs ≡ n → map (value_at vs) (count_from 0 n) ≡ vs
own_values n vs long =
    let l = length-map (count_from 0 n) (value_at vs) in
    same_number_lists (map (value_at vs) (count_from 0 n)) vs (omega (arith, l, length_count 0 n))
    (λ i lt. let h : i < n = omega (arith, l, length_count 0 n, lt) in
    get_or-map (value_at vs) (count_from 0 n) i 0 0 (omega (arith, length_count 0 n)) ∙ ap (value_at vs) (get_count 0 n i h ∙ omega arith))

-- ---- lengths

length_written : (vals : List ℕ) (xs : List Write) (vs : List ℕ) → length (written vals xs vs) ≡ length vs
length_written vals [] vs = refl
length_written vals (x ∷ xs) vs = length_written vals xs (set vs x.var (value_at vals x.value)) ∙ length-set vs x.var (value_at vals x.value)

-- where a jump over variables leads
record LeadsTo (j : CfgJump) (vars : List ℕ) (c : ℕ) (vs : List ℕ) : Type 0 where
  to : Contains (targets j) c
  same : vs ≡ vars

leads_to : (j : CfgJump) (vals vars : List ℕ) (c : ℕ) (vs : List ℕ) → var_onward j vals vars ≡ onto c vs → LeadsTo j vars c vs
leads_to (Go d) vals vars c vs h = record { to = (0, omega arith, let e : d ≡ c = cc in e); same = let e : vars ≡ vs = cc in sym e }
leads_to (Two x yes_part no_part) vals vars c vs h = by (value_at vals x) h
  where
    by : (z : ℕ) → side z (onto yes_part vars) (onto no_part vars) ≡ onto c vs → LeadsTo (Two x yes_part no_part) vars c vs
    by zero e = record { to = (1, omega arith, let q : no_part ≡ c = cc in q); same = let q : vars ≡ vs = cc in sym q }
    by (suc z) e = record { to = (0, omega arith, let q : yes_part ≡ c = cc in q); same = let q : vars ≡ vs = cc in sym q }
leads_to (Return v) vals vars c vs h = absurd (cc)

-- ---- numbers

one_more : (k m a b rest_new rest : ℕ) → a ≤ b + m → rest_new ≤ rest + (k + 1) * m → a + rest_new ≤ b + rest + (suc k + 1) * m
one_more k m a b rest_new rest h l =
    let e : (suc k + 1) * m ≡ (k + 1) * m + m = ap (λ n. n * m) (let q : suc k + 1 ≡ suc (k + 1) = omega arith in q) ∙ suc-mul (k + 1) m in
    omega arith

sums_le : (a price k jumps m : ℕ) → a ≤ price → k ≤ jumps → a + (k + 1) * m ≤ price + (jumps + 1) * m
sums_le a price k jumps m h l =
    let e : (k + 1) * m ≤ (jumps + 1) * m = mul-le-mul_right m (let q : k + 1 ≤ jumps + 1 = omega arith in q) in
    omega arith

pub record SamePassage (table : List (List ℕ)) (p q : Passage) : Type 0 where
  pub arrays : q.arrays ≡ p.arrays
  pub strays : q.strays ≡ p.strays
  pub onward : q.onward ≡ lowered table p.onward

module _ (g : VarGraph) (fine : IsVarGraph g) (table : List (List ℕ)) (serves : Serves g table) where
  abbrev v : ℕ
  v = length g.vars

  abbrev s : ℕ
  s = length g.scalars

  abbrev ir : Graph
  ir = argued g table

  few_scalars : s ≤ v
  few_scalars =
      let e : length (take s g.vars) ≡ s = ap length fine.scalars ∙ length-map g.scalars _ in
      omega (arith, e, length-take s g.vars)

  -- what a visit of block n is given in either graph
  abbrev Gives : ℕ → List ℕ → List ℕ → Type 0
  Gives zero vs ws = (vs ≡ ws ++ replicate (v - length ws) 0) × (length ws ≡ s)
  Gives (suc n) vs ws = ws ≡ map (value_at vs) (listed_at table (suc n))

  -- passages by the block itself
  abbrev by_variables : CfgBlock → List ℕ → List (List ℕ) → Passage
  by_variables x vs arrays =
      let w = through x.steps (beginning (read_values vs x) arrays) in
      record { values = w.values; arrays = w.arrays; strays = w.strays; onward = var_onward x.jump w.values (written w.values x.writes vs) }

  abbrev by_arguments : Block → List ℕ → List (List ℕ) → Passage
  by_arguments x ws arrays =
      let w = through x.steps (beginning ws arrays) in
      record { values = w.values; arrays = w.arrays; strays = w.strays; onward = onward_of x.jump w.values }

  module _ (n : ℕ) (x : CfgBlock) (h : slice_get g.blocks n ≡ Some x) (vs : List ℕ) (arrays : List (List ℕ)) (long : length vs ≡ v) where
    abbrev held : List ℕ
    held = held_at v table n

    abbrev given_values : Work
    given_values = beginning (map (value_at vs) held) arrays

    same_onward : onward_of (new_jump table held x x.jump) (through (new_steps held x) given_values).values
        ≡ lowered table (var_onward x.jump (through x.steps (beginning (read_values vs x) arrays)).values (written (through x.steps (beginning (read_values vs x) arrays)).values x.writes vs))
    same_onward =
        let nms = names g fine n x h table serves in
        jump_same x held vs arrays nms table x.jump nms.jump (λ c to. subst (λ k. Handed held (listed_at table c) x k) (sym long) (hands g fine n x h table serves c to))

    -- where the steps begin with what the block holds
    from_held : (z : Block) (ws : List ℕ) → through z.steps (beginning ws arrays) ≡ through (new_steps held x) given_values → z.jump ≡ new_jump table held x x.jump
        → SamePassage table (by_variables x vs arrays) (by_arguments z ws arrays)
    from_held z ws e j =
        let sm = same x held vs arrays (names g fine n x h table serves) in
        record {
          arrays = ap (λ (w : Work). w.arrays) e ∙ sm.arrays;
          strays = ap (λ (w : Work). w.strays) e ∙ sm.strays;
          onward = ap (λ (w : Work). onward_of z.jump w.values) e ∙ ap (λ y. onward_of y (through (new_steps held x) given_values).values) j ∙ same_onward;
        }

  entry_begins : (x : CfgBlock) (vs ws : List ℕ) (arrays : List (List ℕ)) → length vs ≡ v → Gives zero vs ws
      → through (zeros (drop s g.vars) ++ new_steps (count_from 0 v) x) (beginning ws arrays) ≡ through (new_steps (count_from 0 v) x) (beginning (map (value_at vs) (count_from 0 v)) arrays)
  entry_begins x vs ws arrays long gives =
      let ks = new_steps (count_from 0 v) x in
      let more : length (drop s g.vars) ≡ v - length ws = omega (arith, length-drop s g.vars, gives.1) in
      let all : ws ++ replicate (length (drop s g.vars)) 0 ≡ map (value_at vs) (count_from 0 v) = ap (λ k. ws ++ replicate k 0) more ∙ sym gives.0 ∙ sym (own_values v vs long) in
      through_append (zeros (drop s g.vars)) ks (beginning ws arrays)
      ∙ ap (through ks) (zeroed (drop s g.vars) ws arrays 0)
      ∙ ap (λ l. through ks (record { values = l; arrays = arrays; strays = 0 })) all

  by_blocks : (n : ℕ) (x : CfgBlock) → slice_get g.blocks n ≡ Some x → (vs ws : List ℕ) (arrays : List (List ℕ)) → length vs ≡ v → Gives n vs ws
      → SamePassage table (by_variables x vs arrays) (by_arguments (new_block s g.vars table n x) ws arrays)
  by_blocks zero x h vs ws arrays long gives = from_held zero x h vs arrays long (new_block s g.vars table zero x) ws (entry_begins x vs ws arrays long gives) refl
  by_blocks (suc n) x h vs ws arrays long gives =
      from_held (suc n) x h vs arrays long (new_block s g.vars table (suc n) x) ws (ap (λ l. through (new_steps (listed_at table (suc n)) x) (beginning l arrays)) gives) refl

  passage_of : (n : ℕ) (x : CfgBlock) → slice_get g.blocks n ≡ Some x → (vs ws : List ℕ) (arrays : List (List ℕ)) → length vs ≡ v → Gives n vs ws
      → SamePassage table (var_passage g (record { block = n; given = vs; arrays = arrays })) (passage ir (record { block = n; given = ws; arrays = arrays }))
  passage_of n x h vs ws arrays long gives =
      let e : x ≡ var_block_at g n = sym (get_or_from_slice_get g.blocks n x no_var_block h) in
      let k : new_block s g.vars table n x ≡ block_at ir n = sym (new_block_at g table n x h) in
      subst (λ y. SamePassage table (by_variables y vs arrays) (passage ir (record { block = n; given = ws; arrays = arrays }))) e
      (subst (λ z. SamePassage table (by_variables x vs arrays) (by_arguments z ws arrays)) k (by_blocks n x h vs ws arrays long gives))

  -- ---- weights

  few_to : (hs : List ℕ) (b : CfgBlock) (c : ℕ) → length (handed_to hs (listed_at table c) b) ≤ v
  few_to hs b c =
      let e : length (handed_to hs (listed_at table c) b) ≡ length (listed_at table c) = length-map (listed_at table c) _ in
      omega (arith, e, few_listed g table c serves)

  few_handed : (hs : List ℕ) (b : CfgBlock) (j : CfgJump) → handed_on (new_jump table hs b j) ≤ 2 * v
  few_handed hs b (Go c) = omega (arith, few_to hs b c)
  few_handed hs b (Two x yes_part no_part) = omega (arith, few_to hs b yes_part, few_to hs b no_part)
  few_handed hs b (Return y) = omega arith

  pub light : (n : ℕ) (x : CfgBlock) → block_weight (new_block s g.vars table n x) ≤ length x.steps + (2 + 3 * v)
  light zero x =
      let hs = count_from 0 v in
      let a : length (zeros (drop s g.vars) ++ new_steps hs x) ≡ length (zeros (drop s g.vars)) + length (new_steps hs x) = length-append (zeros (drop s g.vars)) (new_steps hs x) in
      let b : length (zeros (drop s g.vars)) ≡ length (drop s g.vars) = length-map (drop s g.vars) _ in
      let d : length (new_steps hs x) ≡ length x.steps = length-map x.steps _ in
      omega (arith, a, b, d, length-drop s g.vars, length-take s g.vars, few_handed hs x x.jump, few_scalars)
  light (suc n) x =
      let hs = listed_at table (suc n) in
      let d : length (new_steps hs x) ≡ length x.steps = length-map x.steps _ in
      let a : length (map (λ y. get_or g.vars y 0) hs) ≡ length hs = length-map hs _ in
      omega (arith, a, d, few_handed hs x x.jump, few_listed g table (suc n) serves)

  weight_of : (n : ℕ) (x : CfgBlock) → slice_get g.blocks n ≡ Some x → (vs ws : List ℕ) (old_arrays new_arrays : List (List ℕ))
      → weight ir (record { block = n; given = ws; arrays = new_arrays }) ≤ steps_made g (record { block = n; given = vs; arrays = old_arrays }) + (2 + 3 * v)
  weight_of n x h vs ws old_arrays new_arrays =
      let e : block_weight (block_at ir n) ≡ block_weight (new_block s g.vars table n x) = ap block_weight (new_block_at g table n x h) in
      let k : length (var_block_at g n).steps ≡ length x.steps = ap (λ (y : CfgBlock). length y.steps) (get_or_from_slice_get g.blocks n x no_var_block h) in
      omega (arith, e, k, light n x)

  -- ---- whole runs

  record Follows (rest : List Visit) (first first_new : Visit) (r : Option ℕ) (last_arrays : List (List ℕ)) : Type 0 where
    new_rest : List Visit
    ends : Finishes (passage ir) first_new new_rest r last_arrays
    strays : strays_of (passage ir) (first_new ∷ new_rest) ≡ strays_of (var_passage g) (first ∷ rest)
    many : length new_rest ≡ length rest
    cheap : over_visits (weight ir) (first_new ∷ new_rest) ≤ over_visits (steps_made g) (first ∷ rest) + (length rest + 1) * (2 + 3 * v)

  gives_later : (c : ℕ) (vs : List ℕ) → 0 < c → Gives c vs (map (value_at vs) (listed_at table c))
  gives_later zero vs h = absurd (omega arith)
  gives_later (suc c) vs h = refl

  block_there : (c : ℕ) → c < length g.blocks → slice_get g.blocks c ≡ Some (get_or g.blocks c no_var_block)
  block_there c h = slice_get-get_or g.blocks c no_var_block h

  abbrev visit_of : ℕ → List ℕ → List (List ℕ) → Visit
  visit_of n vs arrays = record { block = n; given = vs; arrays = arrays }

  -- what follows the next visit, whatever it is
  abbrev Later : List Visit → Option ℕ → List (List ℕ) → Type 0
  Later us r last_arrays = (c : ℕ) (z : CfgBlock) → slice_get g.blocks c ≡ Some z → (vs ws : List ℕ) (arrays : List (List ℕ)) → length vs ≡ v → Gives c vs ws
      → Finishes (var_passage g) (visit_of c vs arrays) us r last_arrays → Follows us (visit_of c vs arrays) (visit_of c ws arrays) r last_arrays

  goes_on : (u : Visit) (us : List Visit) (n : ℕ) (x : CfgBlock) → slice_get g.blocks n ≡ Some x → (vs ws : List ℕ) (arrays : List (List ℕ)) (r : Option ℕ) (last_arrays : List (List ℕ)) → length vs ≡ v → Gives n vs ws
      → (o : Onward) → (var_passage g (visit_of n vs arrays)).onward ≡ o → next_of o (var_passage g (visit_of n vs arrays)).arrays ≡ Some u → Finishes (var_passage g) u us r last_arrays → Later us r last_arrays
      → Follows (u ∷ us) (visit_of n vs arrays) (visit_of n ws arrays) r last_arrays
  goes_on u us n x h vs ws arrays r last_arrays long gives (leaves z) e k f more = absurd (cc)
  goes_on u us n x h vs ws arrays r last_arrays long gives (onto c vs2) e k f more =
      let first = visit_of n vs arrays in
      let first_new = visit_of n ws arrays in
      let y = var_block_at g n in
      let there : slice_get g.blocks n ≡ Some y = h ∙ ap Some (sym (get_or_from_slice_get g.blocks n x no_var_block h)) in
      let vals = (var_passage g first).values in
      let lead = leads_to y.jump vals (written vals y.writes vs) c vs2 e in
      let t = target g fine n y there c lead.to in
      let long2 : length vs2 ≡ v = ap length lead.same ∙ length_written vals y.writes vs ∙ long in
      let arrays2 = (var_passage g first).arrays in
      let ws2 = map (value_at vs2) (listed_at table c) in
      let next = visit_of c vs2 arrays2 in
      let next_new = visit_of c ws2 arrays2 in
      let is : u ≡ next = sym (same_Some next u k) in
      let rest = more c (get_or g.blocks c no_var_block) (block_there c t.1) vs2 ws2 arrays2 long2 (gives_later c vs2 t.0) (subst (λ q. Finishes (var_passage g) q us r last_arrays) is f) in
      let p = passage_of n x h vs ws arrays long gives in
      let step : next_visit (passage ir) first_new ≡ Some next_new = ap (λ q. next_of q (passage ir first_new).arrays) (p.onward ∙ ap (lowered table) e) ∙ ap (λ q. next_of (onto c ws2) q) p.arrays in
      subst (λ q. Follows (q ∷ us) first first_new r last_arrays) (sym is)
      (record {
        new_rest = next_new ∷ rest.new_rest;
        ends = (step, rest.ends);
        strays = ap (λ q. q + strays_of (passage ir) (next_new ∷ rest.new_rest)) p.strays ∙ ap (λ q. (var_passage g first).strays + q) rest.strays;
        many = ap suc rest.many;
        cheap = one_more (length us) (2 + 3 * v) (weight ir first_new) (steps_made g first) (over_visits (weight ir) (next_new ∷ rest.new_rest)) (over_visits (steps_made g) (next ∷ us))
            (weight_of n x h vs ws arrays arrays) rest.cheap;
      })

  follows : (rest : List Visit) (n : ℕ) (x : CfgBlock) → slice_get g.blocks n ≡ Some x → (vs ws : List ℕ) (arrays : List (List ℕ)) (r : Option ℕ) (last_arrays : List (List ℕ)) → length vs ≡ v → Gives n vs ws
      → Finishes (var_passage g) (visit_of n vs arrays) rest r last_arrays → Follows rest (visit_of n vs arrays) (visit_of n ws arrays) r last_arrays
  follows [] n x h vs ws arrays r last_arrays long gives f =
      let p = passage_of n x h vs ws arrays long gives in
      record {
        new_rest = [];
        ends = record { result = p.onward ∙ ap (lowered table) f.result; last_arrays = p.arrays ∙ f.last_arrays };
        strays = ap (λ k. k + 0) p.strays;
        many = refl;
        cheap = omega (arith, weight_of n x h vs ws arrays arrays);
      }
  follows (u ∷ us) n x h vs ws arrays r last_arrays long gives f =
      goes_on u us n x h vs ws arrays r last_arrays long gives (var_passage g (visit_of n vs arrays)).onward refl f.0 f.1
      (λ c z there vs2 ws2 arrays2 long2 gives2 f2. follows us c z there vs2 ws2 arrays2 r last_arrays long2 gives2 f2)

  pub runs : (scalars : List ℕ) (arrays : List (List ℕ)) (r : Option ℕ) (last_arrays : List (List ℕ)) (jumps price : ℕ) → length scalars ≡ s
      → Finished (var_passage g) (var_first_visit g scalars arrays) r last_arrays (steps_made g) jumps price
      → Finished (passage ir) (first_visit scalars arrays) r last_arrays (weight ir) jumps (price + (jumps + 1) * (2 + 3 * v))
  runs scalars arrays r last_arrays jumps price many f =
      let vs = scalars ++ replicate (v - length scalars) 0 in
      let zs : List ℕ = replicate (v - length scalars) 0 in
      let z : length zs ≡ v - length scalars = length-replicate (v - length scalars) 0 in
      let long : length vs ≡ v = omega (arith, length-append scalars zs, z, few_scalars, many) in
      let k = follows f.rest 0 (get_or g.blocks 0 no_var_block) (block_there 0 fine.some) vs scalars arrays r last_arrays long (refl, many) f.ends in
      record {
        rest = k.new_rest;
        ends = k.ends;
        clean = k.strays ∙ f.clean;
        few = let e = k.many in let l = f.few in omega arith;
        cheap = let q = k.cheap in let w = sums_le (over_visits (steps_made g) (record { block = 0; given = vs; arrays = arrays } ∷ f.rest)) price (length f.rest) jumps (2 + 3 * v) f.cheap f.few in omega arith;
      }
