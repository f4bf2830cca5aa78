-- The table of live variables: each variable is added at the blocks that it is live at.
use Rattle.std.proofs.Common.{◌≡◌, ◌⊎◌, inl, inr, ℕ, zero, suc, ◌+◌, ◌<◌, ◌≤◌, Bool, true, false, cond, List, [], ◌∷◌, ◌++◌, length, get_or, set, replicate, refl, sym, ◌∙◌, zero-add, add-one, drop, ap, subst, arith, length-set, get_or-set_same, get_or-set_other}
use Rattle.std.specs.Prelude.{slice_get, map, Some}
use Rattle.std.specs.declared.vec.Vec.{Vec}
use Rattle.std.specs.declared.alloc.Global.{Global}
use Rattle.std.specs.List.{Contains, AllByRecursion}
use Rattle.std.proofs.lemmas.Bool.{cases_eq, cases_lt}
use Rattle.std.proofs.lemmas.Option.{same_Some, slice_get_within}
use Rattle.std.proofs.lemmas.List.{get_or_past, length-replicate, at_drop_more}
use Rattle.std.proofs.lemmas.List.Elements.{Contains-append_left, Contains-push, Contains-push_cases}
use Rattle.ir.specs.declared.cfg.CfgBlock.{CfgBlock}
use Rattle.ir.specs.declared.cfg.Write.{Write}
use Rattle.ir.specs.Variables.{VarGraph, IsVarGraph}
use Rattle.block_args.specs.declared.live.Index.{Index}
use Rattle.block_args.specs.Live.{IsWritten, Live}
use Rattle.block_args.specs.Tables.{listed_at, AreAscending, ListsLive}
use Rattle.block_args.specs.Walks.{read_vars, written_vars, target_blocks, put_at, put_at_all, with_blocks, marked, Reached, AreReached}
use Rattle.block_args.specs.Indexes.{IsIndexOf, AreLiveAt, AreLiveFrom, ArePushed, with_found, ListsBelow}
use Rattle.block_args.proofs.Lives.{live_below}
use Rattle.block_args.proofs.Named.{target}
use Rattle.block_args.proofs.Walking.{none_set}

-- ---- some variables more

-- the first n blocks were gone over
pub record PushedTo (found : List (Vec Bool Global)) (v : ℕ) (table : List (List ℕ)) (n : ℕ) (after : List (List ℕ)) : Type 0 where
  pub many : length after ≡ length table
  pub each : (b : ℕ) → b < n → b < length table → listed_at after b ≡ with_found found v b (listed_at table b)
  pub rest : (b : ℕ) → n ≤ b → listed_at after b ≡ listed_at table b

pub pushed_none : (found : List (Vec Bool Global)) (v : ℕ) (table : List (List ℕ)) → PushedTo found v table 0 table
pushed_none found v table = record { many = refl; each = λ b h lt. absurd (omega arith); rest = λ b h. refl }

pub pushed_more : (found : List (Vec Bool Global)) (v : ℕ) (table : List (List ℕ)) (n : ℕ) (now after : List (List ℕ)) → PushedTo found v table n now
    → n < length now → after ≡ set now n (with_found found v n (listed_at now n)) → PushedTo found v table (n + 1) after
pushed_more found v table n now after p lt e = subst (PushedTo found v table (n + 1)) (sym e) (record {
  many = length-set now n (with_found found v n (listed_at now n)) ∙ p.many;
  each = λ b h l. elim (cases_eq b n) [
    | inl same ↦
        ap (listed_at (set now n (with_found found v n (listed_at now n)))) same ∙ get_or-set_same now n (with_found found v n (listed_at now n)) [] lt
        ∙ ap (with_found found v n) (p.rest n (omega arith))
        ∙ ap (λ k. with_found found v k (listed_at table k)) (sym same)
    | inr other ↦ get_or-set_other now n b (with_found found v n (listed_at now n)) [] other ∙ p.each b (omega arith) l
  ];
  rest = λ b h. get_or-set_other now n b (with_found found v n (listed_at now n)) [] (λ same. absurd (omega arith)) ∙ p.rest b (omega arith);
})

pub pushed_all : (found : List (Vec Bool Global)) (v : ℕ) (table : List (List ℕ)) (n : ℕ) (after : List (List ℕ)) → PushedTo found v table n after → length table ≤ n
    → ArePushed found v table after
pushed_all found v table n after p h = record { many = p.many; each = λ b lt. p.each b (omega arith) lt }

-- one more variable, at the blocks that are marked
record IsPushed (marks : List Bool) (v : ℕ) (table after : List (List ℕ)) : Type 0 where
  many : length after ≡ length table
  each : (b : ℕ) → b < length table → listed_at after b ≡ cond (get_or marks b false) (listed_at table b ++ v ∷ []) (listed_at table b)

-- the table with a variable more, from block b on
abbrev pushed : List Bool → ℕ → ℕ → List (List ℕ) → List (List ℕ)
pushed marks v b [] = []
pushed marks v b (xs ∷ table) = cond (get_or marks b false) (xs ++ v ∷ []) xs ∷ pushed marks v (suc b) table

is_pushed : (marks : List Bool) (v : ℕ) (table : List (List ℕ)) → IsPushed marks v table (pushed marks v 0 table)
is_pushed marks v table = record { many = many 0 table; each = λ b lt. each 0 table b lt ∙ ap (λ k. cond (get_or marks k false) (listed_at table b ++ v ∷ []) (listed_at table b)) (zero-add b) }
  where
    many : (n : ℕ) (t : List (List ℕ)) → length (pushed marks v n t) ≡ length t
    many n [] = refl
    many n (xs ∷ t) = ap suc (many (suc n) t)

    each : (n : ℕ) (t : List (List ℕ)) (b : ℕ) → b < length t → listed_at (pushed marks v n t) b ≡ cond (get_or marks (n + b) false) (listed_at t b ++ v ∷ []) (listed_at t b)
    each n [] b lt = absurd (omega arith)
    each n (xs ∷ t) zero lt = ap (λ k. cond (get_or marks k false) (xs ++ v ∷ []) xs) (let e : n ≡ n + 0 = omega arith in e)
    each n (xs ∷ t) (suc b) lt =
        each (suc n) t b (omega arith) ∙ ap (λ k. cond (get_or marks k false) (listed_at t b ++ v ∷ []) (listed_at t b)) (let e : suc n + b ≡ n + suc b = omega arith in e)

pub live_push : (g : VarGraph) (v : ℕ) (found : List (Vec Bool Global)) (m : Vec Bool Global) → AreLiveFrom g v found → AreLiveAt g (v + length found) m.items → AreLiveFrom g v (found ++ m ∷ [])
live_push g v [] m all last = (subst (λ k. AreLiveAt g k m.items) (let e : v + 0 ≡ v = omega arith in e) last, tt)
live_push g v (x ∷ xs) m all last =
    (all.0, live_push g (suc v) xs m all.1 (subst (λ k. AreLiveAt g k m.items) (let e : v + suc (length xs) ≡ suc v + length xs = omega arith in e) last))

-- ---- all variables

empty_at : (n b : ℕ) → listed_at (replicate n []) b ≡ []
empty_at zero b = refl
empty_at (suc n) zero = refl
empty_at (suc n) (suc b) = empty_at n b

pub lists_none : (g : VarGraph) (table : List (List ℕ)) → table ≡ replicate (length g.blocks) [] → ListsBelow g 0 table
lists_none g table e = subst (ListsBelow g 0) (sym e) (record {
  many = length-replicate (length g.blocks) [];
  ascending = λ b. subst AreAscending (sym (empty_at (length g.blocks) b)) tt;
  live = λ b v h. absurd (let l = (subst (λ xs. Contains xs v) (empty_at (length g.blocks) b) h).1 in omega arith);
  all = λ b v h l. absurd (omega arith);
})

pub ascending_push : (xs : List ℕ) (n : ℕ) → AreAscending xs → ((v : ℕ) → Contains xs v → v < n) → AreAscending (xs ++ n ∷ [])
ascending_push [] n up h = (tt, tt)
ascending_push (x ∷ xs) n up h =
    (above xs up.0 (h x (0, omega arith, refl)), ascending_push xs n up.1 (λ v k. h v (suc k.0, (let l = k.1 in omega arith), k.2)))
  where
    above : (ys : List ℕ) → AllByRecursion (λ y. x < y) ys → x < n → AllByRecursion (λ y. x < y) (ys ++ n ∷ [])
    above [] k lt = (lt, tt)
    above (y ∷ ys) k lt = (k.0, above ys k.1 lt)

live_there : (g : VarGraph) (b v : ℕ) → Live g b v → b < length g.blocks
live_there g b v (Live.read_here c w x there reads) = slice_get_within g.blocks b x there
live_there g b v (Live.read_later c d w x there to never rest) = slice_get_within g.blocks b x there

lists_more : (g : VarGraph) (n : ℕ) (table after : List (List ℕ)) (marks : List Bool) → ListsBelow g n table → AreLiveAt g n marks → IsPushed marks n table after → ListsBelow g (n + 1) after
lists_more g n table after marks l m p = record {
  many = p.many ∙ l.many;
  ascending = λ b. elim (cases_lt b (length table)) [
    | inl lt ↦ subst AreAscending (sym (p.each b lt)) (up b (get_or marks b false))
    | inr ge ↦ subst AreAscending (sym (past b ge)) tt
  ];
  live = λ b v h. elim (cases_lt b (length table)) [
    | inl lt ↦ listed b v (get_or marks b false) refl (subst (λ xs. Contains xs v) (p.each b lt) h)
    | inr ge ↦ absurd (let q = (subst (λ xs. Contains xs v) (past b ge) h).1 in omega arith)
  ];
  all = λ b v h k.
      let lt : b < length table = let q = l.many in let r = live_there g b v k in omega arith in
      subst (λ xs. Contains xs v) (sym (p.each b lt)) (has b v h k (cases_eq v n));
}
  where
    past : (b : ℕ) → length table ≤ b → listed_at after b ≡ []
    past b ge = get_or_past after b [] (let q = p.many in omega arith)

    up : (b : ℕ) (x : Bool) → AreAscending (cond x (listed_at table b ++ n ∷ []) (listed_at table b))
    up b true = ascending_push (listed_at table b) n (l.ascending b) (λ v h. (l.live b v h).0)
    up b false = l.ascending b

    listed : (b v : ℕ) (x : Bool) → get_or marks b false ≡ x → Contains (cond x (listed_at table b ++ n ∷ []) (listed_at table b)) v → (v < n + 1) × Live g b v
    listed b v true e h = elim (Contains-push_cases (listed_at table b) n v h) [
      | inl old ↦ (let q = (l.live b v old).0 in omega arith, (l.live b v old).1)
      | inr is ↦ (omega arith, subst (Live g b) is (m.live b e))
    ]
    listed b v false e h = (let q = (l.live b v h).0 in omega arith, (l.live b v h).1)

    has : (b v : ℕ) → v < n + 1 → Live g b v → (v ≡ n) ⊎ (v ≡ n → ⊥) → Contains (cond (get_or marks b false) (listed_at table b ++ n ∷ []) (listed_at table b)) v
    has b v h k (inl is) =
        let set_ : get_or marks b false ≡ true = m.all b (subst (Live g b) is k) in
        subst (λ (x : Bool). Contains (cond x (listed_at table b ++ n ∷ []) (listed_at table b)) v) (sym set_) (subst (Contains (listed_at table b ++ n ∷ [])) (sym is) (Contains-push (listed_at table b) n))
    has b v h k (inr other) = older (get_or marks b false)
      where
        there : Contains (listed_at table b) v
        there = l.all b v (omega arith) k

        older : (x : Bool) → Contains (cond x (listed_at table b ++ n ∷ []) (listed_at table b)) v
        older true = Contains-append_left (listed_at table b) (n ∷ []) v there
        older false = there

-- so many variables more
pub lists_found : (g : VarGraph) (found : List (Vec Bool Global)) (n : ℕ) (table after : List (List ℕ)) → ListsBelow g n table → AreLiveFrom g n found → ArePushed found n table after
    → ListsBelow g (n + length found) after
lists_found g [] n table after l all p = record {
  many = p.many ∙ l.many;
  ascending = λ b. subst AreAscending (sym (same b)) (l.ascending b);
  live = λ b v h. let old = l.live b v (subst (λ xs. Contains xs v) (same b) h) in (let q = old.0 in omega arith, old.1);
  all = λ b v h k. subst (λ xs. Contains xs v) (sym (same b)) (l.all b v (omega arith) k);
}
  where
    same : (b : ℕ) → listed_at after b ≡ listed_at table b
    same b = elim (cases_lt b (length table)) [
      | inl lt ↦ p.each b lt
      | inr ge ↦ get_or_past after b [] (let q = p.many in omega arith) ∙ sym (get_or_past table b [] ge)
    ]
lists_found g (m ∷ ms) n table after l all p =
    let one : IsPushed m.items n table (pushed m.items n 0 table) = is_pushed m.items n table in
    let up : suc n ≡ n + 1 = omega arith in
    subst (λ k. ListsBelow g k after) (let e : n + 1 + length ms ≡ n + suc (length ms) = omega arith in e)
    (lists_found g ms (n + 1) (pushed m.items n 0 table) after (lists_more g n table (pushed m.items n 0 table) m.items l all.0 one) (subst (λ k. AreLiveFrom g k ms) up all.1) (record {
      many = p.many ∙ sym one.many;
      each = λ b lt.
          let below : b < length table = let q = one.many in omega arith in
          p.each b below ∙ ap (with_found ms (suc n) b) (sym (one.each b below)) ∙ ap (λ k. with_found ms k b (listed_at (pushed m.items n 0 table) b)) up;
    }))

pub lists_all : (g : VarGraph) (n : ℕ) (table : List (List ℕ)) → IsVarGraph g → ListsBelow g n table → length g.vars ≤ n → ListsLive g table
lists_all g n table fine l h = record {
  many = l.many;
  ascending = l.ascending;
  live = λ b v k. (l.live b v k).1;
  all = λ b v k. l.all b v (let q = live_below g fine b v k in omega arith) k;
}

-- ---- the tables of blocks by the numbers that they name

-- the block of that number names the number n
record Naming (names : CfgBlock → List ℕ) (blocks : List CfgBlock) (b n : ℕ) : Type 0 where
  block : CfgBlock
  there : slice_get blocks b ≡ Some block
  named : Contains (names block) n

put_length : (table : List (List ℕ)) (ns : List ℕ) (b : ℕ) → length (put_at_all table ns b) ≡ length table
put_length table [] b = refl
put_length table (n ∷ ns) b = put_length (put_at table n b) ns b ∙ length-set table n (listed_at table n ++ b ∷ [])

put_keeps : (table : List (List ℕ)) (n b k c : ℕ) → Contains (listed_at table k) c → Contains (listed_at (put_at table n b) k) c
put_keeps table n b k c h = elim (cases_eq k n) [
  | inl same ↦
      subst (λ xs. Contains xs c) (sym (ap (listed_at (put_at table n b)) same ∙ get_or-set_same table n (listed_at table n ++ b ∷ []) [] (subst (λ j. j < length table) same (in_table table k c h))))
      (Contains-append_left (listed_at table n) (b ∷ []) c (subst (λ j. Contains (listed_at table j) c) same h))
  | inr other ↦ subst (λ xs. Contains xs c) (sym (get_or-set_other table n k (listed_at table n ++ b ∷ []) [] other)) h
]
  where
    in_table : (t : List (List ℕ)) (j x : ℕ) → Contains (listed_at t j) x → j < length t
    in_table t j x h = elim (cases_lt j (length t)) [ inl lt ↦ lt | inr ge ↦ absurd (let q = (subst (λ xs. Contains xs x) (get_or_past t j [] ge) h).1 in omega arith) ]

put_has : (table : List (List ℕ)) (n b : ℕ) → n < length table → Contains (listed_at (put_at table n b) n) b
put_has table n b lt = subst (λ xs. Contains xs b) (sym (get_or-set_same table n (listed_at table n ++ b ∷ []) [] lt)) (Contains-push (listed_at table n) b)

put_cases : (table : List (List ℕ)) (n b k c : ℕ) → Contains (listed_at (put_at table n b) k) c → Contains (listed_at table k) c ⊎ ((k ≡ n) × (c ≡ b))
put_cases table n b k c h = elim (cases_eq k n) [
  | inr other ↦ inl (subst (λ xs. Contains xs c) (get_or-set_other table n k (listed_at table n ++ b ∷ []) [] other) h)
  | inl same ↦ elim (cases_lt n (length table)) [
    | inl lt ↦
        elim (Contains-push_cases (listed_at table n) b c (subst (λ xs. Contains xs c) (ap (listed_at (put_at table n b)) same ∙ get_or-set_same table n (listed_at table n ++ b ∷ []) [] lt) h)) [
          | inl old ↦ inl (subst (λ j. Contains (listed_at table j) c) (sym same) old)
          | inr is ↦ inr (same, sym is)
        ]
    | inr ge ↦
        absurd (let q = (subst (λ xs. Contains xs c) (get_or_past (put_at table n b) k [] (let e = length-set table n (listed_at table n ++ b ∷ []) in omega arith)) h).1 in omega arith)
  ]
]

all_keep : (table : List (List ℕ)) (ns : List ℕ) (b k c : ℕ) → Contains (listed_at table k) c → Contains (listed_at (put_at_all table ns b) k) c
all_keep table [] b k c h = h
all_keep table (n ∷ ns) b k c h = all_keep (put_at table n b) ns b k c (put_keeps table n b k c h)

all_have : (table : List (List ℕ)) (ns : List ℕ) (b k : ℕ) → k < length table → Contains ns k → Contains (listed_at (put_at_all table ns b) k) b
all_have table [] b k lt h = absurd (let l = h.1 in omega arith)
all_have table (n ∷ ns) b k lt (zero, l, e) = all_keep (put_at table n b) ns b k b (subst (λ j. Contains (listed_at (put_at table n b) j) b) e (put_has table n b (subst (λ j. j < length table) (sym e) lt)))
all_have table (n ∷ ns) b k lt (suc i, l, e) = all_have (put_at table n b) ns b k (let q = length-set table n (listed_at table n ++ b ∷ []) in omega arith) (i, omega arith, e)

all_cases : (table : List (List ℕ)) (ns : List ℕ) (b k c : ℕ) → Contains (listed_at (put_at_all table ns b) k) c → Contains (listed_at table k) c ⊎ (Contains ns k × (c ≡ b))
all_cases table [] b k c h = inl h
all_cases table (n ∷ ns) b k c h = elim (all_cases (put_at table n b) ns b k c h) [
  | inr later ↦ inr ((suc later.0.0, (let l = later.0.1 in omega arith), later.0.2), later.1)
  | inl old ↦ elim (put_cases table n b k c old) [
    | inl older ↦ inl older
    | inr new ↦ inr ((0, omega arith, sym new.0), new.1)
  ]
]

module _ (names : CfgBlock → List ℕ) where
  blocks_keep : (table : List (List ℕ)) (b : ℕ) (xs : List CfgBlock) (k c : ℕ) → Contains (listed_at table k) c → Contains (listed_at (with_blocks names table b xs) k) c
  blocks_keep table b [] k c h = h
  blocks_keep table b (x ∷ xs) k c h = blocks_keep (put_at_all table (names x) b) (suc b) xs k c (all_keep table (names x) b k c h)

  blocks_have : (table : List (List ℕ)) (b : ℕ) (xs : List CfgBlock) (k i : ℕ) → k < length table → Naming names xs i k → Contains (listed_at (with_blocks names table b xs) k) (b + i)
  blocks_have table b [] k i lt h = absurd (let l = slice_get_within [] i h.block h.there in omega arith)
  blocks_have table b (x ∷ xs) k zero lt h =
      let is : x ≡ h.block = same_Some x h.block h.there in
      subst (Contains (listed_at (with_blocks names table b (x ∷ xs)) k)) (let e : b ≡ b + 0 = omega arith in e)
      (blocks_keep (put_at_all table (names x) b) (suc b) xs k b (all_have table (names x) b k lt (subst (λ y. Contains (names y) k) (sym is) h.named)))
  blocks_have table b (x ∷ xs) k (suc i) lt h =
      subst (Contains (listed_at (with_blocks names table b (x ∷ xs)) k)) (let e : suc b + i ≡ b + suc i = omega arith in e)
      (blocks_have (put_at_all table (names x) b) (suc b) xs k i (let q = put_length table (names x) b in omega arith) (record { block = h.block; there = h.there; named = h.named }))

  blocks_cases : (table : List (List ℕ)) (b : ℕ) (xs : List CfgBlock) (k c : ℕ) → Contains (listed_at (with_blocks names table b xs) k) c
      → Contains (listed_at table k) c ⊎ ((i : ℕ) × (c ≡ b + i) × Naming names xs i k)
  blocks_cases table b [] k c h = inl h
  blocks_cases table b (x ∷ xs) k c h = elim (blocks_cases (put_at_all table (names x) b) (suc b) xs k c h) [
    | inr later ↦ inr (suc later.0, (let e = later.1 in omega arith), record { block = later.2.block; there = later.2.there; named = later.2.named })
    | inl old ↦ elim (all_cases table (names x) b k c old) [
      | inl older ↦ inl older
      | inr new ↦ inr (0, (let e = new.1 in omega arith), record { block = x; there = refl; named = new.0 })
    ]
  ]

  -- the table of all blocks has at each number exactly those that name it
  indexed : (n : ℕ) (xs : List CfgBlock) (k b : ℕ) → Contains (listed_at (with_blocks names (replicate n []) 0 xs) k) b → Naming names xs b k
  indexed n xs k b h = elim (blocks_cases (replicate n []) 0 xs k b h) [
    | inl old ↦ absurd (let l = (subst (λ ys. Contains ys b) (empty_at n k) old).1 in omega arith)
    | inr new ↦ subst (λ j. Naming names xs j k) (let e = new.1 in omega arith) new.2
  ]

  all_indexed : (n : ℕ) (xs : List CfgBlock) (k b : ℕ) → k < n → Naming names xs b k → Contains (listed_at (with_blocks names (replicate n []) 0 xs) k) b
  all_indexed n xs k b lt h =
      subst (Contains (listed_at (with_blocks names (replicate n []) 0 xs) k)) (let e : 0 + b ≡ b = omega arith in e)
      (blocks_have (replicate n []) 0 xs k b (omega (arith, length-replicate {A = List ℕ} n [])) h)

  index_length : (table : List (List ℕ)) (b : ℕ) (xs : List CfgBlock) → length (with_blocks names table b xs) ≡ length table
  index_length table b [] = refl
  index_length table b (x ∷ xs) = index_length (put_at_all table (names x) b) (suc b) xs ∙ put_length table (names x) b

-- the blocks from the i-th on are those behind it, once that one is put
pub blocks_next : (names : CfgBlock → List ℕ) (table after : List (List ℕ)) (n i : ℕ) (blocks : List CfgBlock) (x : CfgBlock) → i < length blocks → x ≡ get_or blocks i x
    → after ≡ put_at_all table (names x) n → with_blocks names after (n + 1) (drop (i + 1) blocks) ≡ with_blocks names table n (drop i blocks)
blocks_next names table after n i blocks x lt is e =
    ap (λ t. with_blocks names t (n + 1) (drop (i + 1) blocks)) e
    ∙ ap (λ k. with_blocks names (put_at_all table (names x) n) k (drop (i + 1) blocks)) (add-one n)
    ∙ ap (λ y. with_blocks names (put_at_all table (names y) n) (suc n) (drop (i + 1) blocks)) is
    ∙ sym (at_drop_more (with_blocks names table n) blocks i x lt)

-- ---- the marks of the blocks that write a variable

marked_keeps : (marks : List Bool) (bs : List ℕ) (b : ℕ) → get_or marks b false ≡ true → get_or (marked marks bs) b false ≡ true
marked_keeps marks [] b h = h
marked_keeps marks (c ∷ bs) b h = marked_keeps (set marks c true) bs b (elim (cases_eq b c) [
  | inl same ↦ subst (λ k. get_or (set marks c true) k false ≡ true) (sym same) (get_or-set_same marks c true false (subst (λ k. k < length marks) same (inside marks b h)))
  | inr other ↦ get_or-set_other marks c b true false other ∙ h
])
  where
    inside : (xs : List Bool) (k : ℕ) → get_or xs k false ≡ true → k < length xs
    inside xs k h = elim (cases_lt k (length xs)) [ inl lt ↦ lt | inr ge ↦ absurd (let e = get_or_past xs k false ge in cc) ]

marked_has : (marks : List Bool) (bs : List ℕ) (b : ℕ) → b < length marks → Contains bs b → get_or (marked marks bs) b false ≡ true
marked_has marks [] b lt h = absurd (let l = h.1 in omega arith)
marked_has marks (c ∷ bs) b lt (zero, l, e) = marked_keeps (set marks c true) bs b (subst (λ k. get_or (set marks c true) k false ≡ true) e (get_or-set_same marks c true false (subst (λ k. k < length marks) (sym e) lt)))
marked_has marks (c ∷ bs) b lt (suc i, l, e) = marked_has (set marks c true) bs b (let q = length-set marks c true in omega arith) (i, omega arith, e)

marked_cases : (marks : List Bool) (bs : List ℕ) (b : ℕ) → get_or (marked marks bs) b false ≡ true → (get_or marks b false ≡ true) ⊎ Contains bs b
marked_cases marks [] b h = inl h
marked_cases marks (c ∷ bs) b h = elim (marked_cases (set marks c true) bs b h) [
  | inr later ↦ inr (suc later.0, (let l = later.1 in omega arith), later.2)
  | inl old ↦ elim (cases_eq b c) [
    | inl same ↦ inr (0, omega arith, sym same)
    | inr other ↦ inl (sym (get_or-set_other marks c b true false other) ∙ old)
  ]
]

-- a variable is written where it is among the variables of the writes
written_from : (xs : List Write) (v : ℕ) → Contains (map (λ (x : Write). x.var) xs) v → IsWritten xs v
written_from [] v h = absurd (let l = h.1 in omega arith)
written_from (x ∷ xs) v (zero, l, e) = record { place = 0; value = x.value; is_write = ap (λ k. Some (record { var = k; value = x.value })) e }
written_from (x ∷ xs) v (suc i, l, e) = let w = written_from xs v (i, omega arith, e) in record { place = suc w.place; value = w.value; is_write = w.is_write }

written_to : (xs : List Write) (v place value : ℕ) → slice_get xs place ≡ Some (record { var = v; value = value }) → Contains (map (λ (x : Write). x.var) xs) v
written_to [] v place value h = absurd (let l = slice_get_within [] place (record { var = v; value = value }) h in omega arith)
written_to (x ∷ xs) v zero value h = (0, omega arith, ap (λ (y : Write). y.var) (same_Some x (record { var = v; value = value }) h))
written_to (x ∷ xs) v (suc i) value h = let c = written_to xs v i value h in (suc c.0, (let l = c.1 in omega arith), c.2)

-- ---- what the walk reaches is where the variable is live

module _ (g : VarGraph) (fine : IsVarGraph g) (index : Index) (is : IsIndexOf g index) (v : ℕ) (is_var : v < length g.vars) (closed : List Bool)
    (closes : closed ≡ marked (replicate (length index.before) false) (listed_at index.writers v)) where
  before_length : length index.before ≡ length g.blocks
  before_length = ap length is.before ∙ index_length target_blocks (replicate (length g.blocks) []) 0 g.blocks ∙ length-replicate (length g.blocks) []

  closed_writes : (b : ℕ) → get_or closed b false ≡ true → Naming written_vars g.blocks b v
  closed_writes b h =
      elim (marked_cases (replicate (length index.before) false) (listed_at index.writers v) b (subst (λ (xs : List Bool). get_or xs b false ≡ true) closes h)) [
        | inl old ↦ absurd (none_set (length index.before) b old)
        | inr k ↦ indexed written_vars (length g.vars) g.blocks v b (subst (λ (t : List (List ℕ)). Contains (listed_at t v) b) is.writers k)
      ]

  writes_closed : (b : ℕ) (x : CfgBlock) → slice_get g.blocks b ≡ Some x → IsWritten x.writes v → get_or closed b false ≡ true
  writes_closed b x there w =
      subst (λ (xs : List Bool). get_or xs b false ≡ true) (sym closes)
      (
      marked_has (replicate (length index.before) false) (listed_at index.writers v) b
      (let l = slice_get_within g.blocks b x there in let q = before_length in let r = length-replicate (length index.before) false in omega arith)
      (subst (λ (t : List (List ℕ)). Contains (listed_at t v) b) (sym is.writers)
      (all_indexed written_vars (length g.vars) g.blocks v b is_var (record { block = x; there = there; named = written_to x.writes v w.place w.value w.is_write })))
      )

  reached_live : (b : ℕ) → Reached index.before closed (listed_at index.readers v) b → Live g b v
  reached_live b (Reached.at_start c start) =
      let n = indexed read_vars (length g.vars) g.blocks v b (subst (λ (t : List (List ℕ)). Contains (listed_at t v) b) is.readers start) in
      Live.read_here b v n.block n.there n.named
  reached_live b (Reached.one_back c d r to open_) =
      let n = indexed target_blocks (length g.blocks) g.blocks c b (subst (λ (t : List (List ℕ)). Contains (listed_at t c) b) is.before to) in
      Live.read_later b c v n.block n.there n.named (λ w. let t = writes_closed b n.block n.there w in absurd (cc)) (reached_live c r)

  live_reached : (b : ℕ) → Live g b v → Reached index.before closed (listed_at index.readers v) b
  live_reached b (Live.read_here c w x there reads) =
      Reached.at_start b (subst (λ (t : List (List ℕ)). Contains (listed_at t v) b) (sym is.readers) (all_indexed read_vars (length g.vars) g.blocks v b is_var (record { block = x; there = there; named = reads })))
  live_reached b (Live.read_later c d w x there to never rest) =
      Reached.one_back d b (live_reached d rest)
      (subst (λ (t : List (List ℕ)). Contains (listed_at t d) b) (sym is.before) (all_indexed target_blocks (length g.blocks) g.blocks d b (target g fine b x there d to).1 (record { block = x; there = there; named = to })))
      (open_ (get_or closed b false) refl)
    where
      open_ : (y : Bool) → get_or closed b false ≡ y → get_or closed b false ≡ false
      open_ false e = e
      open_ true e =
          let n = closed_writes b e in
          let same : n.block ≡ x = same_Some n.block x (sym n.there ∙ there) in
          absurd (never (subst (λ (y : CfgBlock). IsWritten y.writes v) same (written_from n.block.writes v n.named)))

  pub live_marks : (seen : List Bool) → AreReached index.before closed (listed_at index.readers v) seen → AreLiveAt g v seen
  live_marks seen r = record {
    many = r.many ∙ before_length;
    live = λ b h. reached_live b (r.sound b h);
    all = λ b l. r.all b (live_reached b l) (let q = before_length in let k = live_there g b v l in omega arith);
  }

-- the same, of what the code has at hand
pub marks_found : (g : VarGraph) → IsVarGraph g → (index : Index) → IsIndexOf g index → (v : ℕ) → v < length g.vars
    → (before : List (List ℕ)) (starts writers : List ℕ) (count : ℕ) (closed seen : List Bool) → before ≡ index.before → starts ≡ listed_at index.readers v → writers ≡ listed_at index.writers v
    → count ≡ length index.before → closed ≡ marked (replicate count false) writers → AreReached before closed starts seen → AreLiveAt g v seen
marks_found g fine index is v is_var before starts writers count closed seen b s w n c r =
    live_marks g fine index is v is_var closed (c ∙ ap (λ k. marked (replicate k false) writers) n ∙ ap (marked (replicate (length index.before) false)) w) seen
    (subst (λ xs. AreReached index.before closed xs seen) s (subst (λ t. AreReached t closed starts seen) b r))
