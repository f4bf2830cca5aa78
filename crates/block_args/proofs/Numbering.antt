-- New numbers by tables are those of the definition.
use Rattle.std.proofs.Common.{◌≡◌, ◌⊎◌, inl, inr, ℕ, zero, suc, ◌+◌, ◌-◌, ◌<◌, ◌≤◌, List, [], ◌∷◌, ◌++◌, map, length, get_or, set, replicate, refl, sym, ◌∙◌, ap, subst, arith, length-set, get_or-set_same, get_or-set_other}
use Rattle.std.specs.Prelude.{Bool, ◌==◌, not, cond, if◌then◌else◌, All}
use Rattle.std.specs.List.{AllByRecursion}
use Rattle.std.proofs.lemmas.Bool.{cases_eq, cases_lt, eq-eqb, ne_eqb, lt-ltb, le-ltb}
use Rattle.std.proofs.lemmas.List.{get_or-replicate, get_or_past, get_or-map, length-replicate, length-map}
use Rattle.std.proofs.lemmas.List.Elements.{recursion_from_All, All-weaker}
use Rattle.ir.specs.declared.instr.Instr.{Instr}
use Rattle.ir.specs.declared.graph.Jump.{Jump}
use Rattle.ir.specs.declared.graph.Jump.TheVariants as jump
use Rattle.ir.specs.declared.cfg.CfgBlock.{CfgBlock}
use Rattle.ir.specs.declared.cfg.CfgJump.{CfgJump}
use Rattle.ir.specs.declared.cfg.CfgJump.TheVariants.{Go, Two, Return}
use Rattle.ir.specs.declared.cfg.Write.{Write}
use Rattle.ir.specs.Renaming.{renamed, operands}
use Rattle.block_args.specs.declared.numbers.Numbers.{Numbers}
use Rattle.block_args.specs.Tables.{count_from, listed_at, AreAscending}
use Rattle.block_args.specs.Arguments.{place_in, new_number, after_writes, handed_to, to, new_jump, new_steps}
use Rattle.block_args.specs.Numbers.{with_places, HasPlaces, entries, number_in, IsRenumbered, AreRenumbered, jump_values, with_writes, jump_by, AreOf, Renumbers, block_with}
use Rattle.block_args.proofs.Named.{few_from, all_from_zero}

-- ---- places

kept_place : (vs table : List ℕ) (n v d : ℕ) → AllByRecursion (λ x. v < x) vs → get_or (with_places table n vs) v d ≡ get_or table v d
kept_place [] table n v d h = refl
kept_place (x ∷ vs) table n v d h = kept_place vs (set table x n) (suc n) v d h.1 ∙ get_or-set_other table x v n d (λ e. let lt = h.0 in absurd (omega arith))

placed_from : (vs table : List ℕ) (n v d : ℕ) → AreAscending vs → AllByRecursion (λ x. x < length table) vs → get_or table v d ≡ n + length vs → get_or (with_places table n vs) v d ≡ n + place_in vs v
placed_from [] table n v d up below h = h
placed_from (x ∷ vs) table n v d up below h = elim (cases_eq x v) [
  | inl same ↦
      let first : place_in (x ∷ vs) v ≡ 0 = ap (λ (c : Bool). cond (not c) (1 + place_in vs v) 0) (eq-eqb x v same) in
      subst (λ k. get_or (with_places (set table x n) (suc n) vs) k d ≡ n + place_in (x ∷ vs) v) same
      (kept_place vs (set table x n) (suc n) x d up.0 ∙ get_or-set_same table x n d below.0 ∙ omega (arith, first))
  | inr other ↦
      let next : place_in (x ∷ vs) v ≡ suc (place_in vs v) = ap (λ (c : Bool). cond (not c) (1 + place_in vs v) 0) (ne_eqb x v other) ∙ omega arith in
      let rest = placed_from vs (set table x n) (suc n) v d up.1 (longer vs below.1) (get_or-set_other table x v n d (λ e. absurd (other (sym e))) ∙ h ∙ omega arith) in
      omega (arith, rest, next)
]
  where
    longer : (ys : List ℕ) → AllByRecursion (λ y. y < length table) ys → AllByRecursion (λ y. y < length (set table x n)) ys
    longer [] k = tt
    longer (y ∷ ys) k = (let lt = k.0 in omega (arith, length-set table x n), longer ys k.1)

pub places_are : (count : ℕ) (held : List ℕ) → AreAscending held → All (λ v. v < count) held → HasPlaces held (with_places (replicate count (length held)) 0 held)
places_are count held up below v =
    placed_from held (replicate count (length held)) 0 v (length held) up
    (long held (recursion_from_All (λ x. x < count) held below))
    (at (cases_lt v count)) ∙ omega arith
  where
    long : (ys : List ℕ) → AllByRecursion (λ y. y < count) ys → AllByRecursion (λ y. y < length (replicate count (length held))) ys
    long [] k = tt
    long (y ∷ ys) k = (let lt = k.0 in omega (arith, length-replicate count (length held)), long ys k.1)

    at : (v < count) ⊎ (count ≤ v) → get_or (replicate count (length held)) v (length held) ≡ 0 + length held
    at (inl lt) = get_or-replicate count v (length held) (length held) lt ∙ omega arith
    at (inr ge) = get_or_past (replicate count (length held)) v (length held) (omega (arith, length-replicate count (length held))) ∙ omega arith

pub places_length : (vs table : List ℕ) (n : ℕ) → length (with_places table n vs) ≡ length table
places_length [] table n = refl
places_length (x ∷ vs) table n = places_length vs (set table x n) (suc n) ∙ length-set table x n

-- ---- writes

pub written_entry : (f : ℕ → ℕ) (xs : List Write) (table : List ℕ) (v d : ℕ) → AllByRecursion (λ (x : Write). x.var < length table) xs
    → get_or (with_writes f table xs) v d ≡ after_writes f xs v (get_or table v d)
written_entry f [] table v d h = refl
written_entry f (x ∷ xs) table v d h =
    written_entry f xs (set table x.var (f x.value)) v d (longer xs h.1) ∙ ap (after_writes f xs v) (by (x.var == v) refl)
  where
    longer : (ys : List Write) → AllByRecursion (λ (y : Write). y.var < length table) ys → AllByRecursion (λ (y : Write). y.var < length (set table x.var (f x.value))) ys
    longer [] k = tt
    longer (y ∷ ys) k = (let lt = k.0 in omega (arith, length-set table x.var (f x.value)), longer ys k.1)

    by : (b : Bool) → (x.var == v) ≡ b → get_or (set table x.var (f x.value)) v d ≡ (if x.var == v then f x.value else get_or table v d)
    by b e = elim (cases_eq x.var v) [
      | inl same ↦
          subst (λ k. get_or (set table x.var (f x.value)) k d ≡ f x.value) same (get_or-set_same table x.var (f x.value) d h.0)
          ∙ sym (ap (λ (c : Bool). if c then f x.value else get_or table v d) (eq-eqb x.var v same))
      | inr other ↦
          get_or-set_other table x.var v (f x.value) d (λ q. absurd (other (sym q)))
          ∙ sym (ap (λ (c : Bool). if c then f x.value else get_or table v d) (ne_eqb x.var v other))
    ]

-- ---- numbers

pub number_same : (held reads : List ℕ) (ns : Numbers) → AreOf held reads ns → (a : ℕ) → number_in ns a ≡ new_number held reads a
number_same held reads ns is a = elim (cases_lt a (length reads)) [
  | inl lt ↦
      ap (λ (b : Bool). if b then get_or ns.reads a 0 else (ns.held + (a - length ns.reads))) (lt-ltb a (length ns.reads) (omega (arith, long)))
      ∙ ap (λ xs. get_or xs a 0) is.reads_are ∙ get_or-map (place_in held) reads a 0 0 lt
      ∙ sym (ap (λ (b : Bool). if b then place_in held (get_or reads a 0) else (length held + (a - length reads))) (lt-ltb a (length reads) lt))
  | inr ge ↦
      ap (λ (b : Bool). if b then get_or ns.reads a 0 else (ns.held + (a - length ns.reads))) (le-ltb a (length ns.reads) (omega (arith, long)))
      ∙ (let h = is.held_is in let r : ns.held + (a - length ns.reads) ≡ length held + (a - length reads) = omega (arith, long) in r)
      ∙ sym (ap (λ (b : Bool). if b then place_in held (get_or reads a 0) else (length held + (a - length reads))) (le-ltb a (length reads) ge))
]
  where
    long : length ns.reads ≡ length reads
    long = ap length is.reads_are ∙ length-map reads (place_in held)

pub functions_same : (held reads : List ℕ) (ns : Numbers) → AreOf held reads ns → number_in ns ≡ new_number held reads
functions_same held reads ns is = λ i a. number_same held reads ns is a i

pub numbers_are : (held reads table : List ℕ) (ns : Numbers) → HasPlaces held table → ns.reads ≡ entries table (length held) reads → ns.held ≡ length held → AreOf held reads ns
numbers_are held reads table ns h r k = record { reads_are = r ∙ ap (λ (f : ℕ → ℕ). map f reads) (λ i v. h v i); held_is = k }

-- ---- the parts of a block

pub count_more : (i n : ℕ) → count_from i n ++ (i + n) ∷ [] ≡ count_from i (suc n)
count_more i zero = ap (λ k. k ∷ []) (let e : i + 0 ≡ i = omega arith in e)
count_more i (suc n) = ap (λ xs. i ∷ xs) (ap (λ k. count_from (suc i) n ++ k ∷ []) (let e : i + suc n ≡ suc i + n = omega arith in e) ∙ count_more (suc i) n)

-- the jump of a table that has the number of each variable's value after the writes
pub jump_same : (table : List (List ℕ)) (held : List ℕ) (b : CfgBlock) (now : ℕ → ℕ) (j : CfgJump) → ((v : ℕ) → now v ≡ after_writes (new_number held b.reads) b.writes v (place_in held v))
    → jump_by table (new_number held b.reads) now j ≡ new_jump table held b j
jump_same table held b now j h = by j
  where
    is : now ≡ (λ v. after_writes (new_number held b.reads) b.writes v (place_in held v))
    is = λ i v. h v i

    handed : (c : ℕ) → map now (listed_at table c) ≡ handed_to held (listed_at table c) b
    handed c = ap (λ f. map f (listed_at table c)) is

    one : (c : ℕ) → record { block = c; with = map now (listed_at table c) } ≡ to table held b c
    one c = ap (λ xs. record { block = c; with = xs }) (handed c)

    by : (k : CfgJump) → jump_by table (new_number held b.reads) now k ≡ new_jump table held b k
    by (Go c) = ap jump.Go (one c)
    by (Two c yes_part no_part) =
        ap (λ t. jump.Two (new_number held b.reads c) t (record { block = no_part; with = map now (listed_at table no_part) })) (one yes_part)
        ∙ ap (jump.Two (new_number held b.reads c) (to table held b yes_part)) (one no_part)
    by (Return v) = refl

module _ (n : ℕ) (held : List ℕ) (b : CfgBlock) (ok : Renumbers n held b) where
  pub few_held : length held ≤ n
  few_held =
      let r = few_from held 0 n ok.ascending (all_from_zero held) (recursion_from_All (λ v. v < n) held ok.below) (omega arith) in
      omega arith

  pub fits : (ns : Numbers) → AreOf held b.reads ns → (a : ℕ) → a < length b.reads + length b.steps → IsRenumbered ns a
  fits ns is a lt =
      let l : length ns.reads ≡ length b.reads = ap length is.reads_are ∙ length-map b.reads (place_in held) in
      let h = is.held_is in
      let f = few_held in
      let s = ok.few in
      omega arith

  all_fit : (ns : Numbers) → AreOf held b.reads ns → (xs : List ℕ) → All (λ a. a < length b.reads + length b.steps) xs → AreRenumbered ns xs
  all_fit ns is xs h = recursion_from_All (IsRenumbered ns) xs (All-weaker (λ a. a < length b.reads + length b.steps) (IsRenumbered ns) (fits ns is) xs h)

  pub steps_fit : (ns : Numbers) → AreOf held b.reads ns → All (λ (i : Instr). AreRenumbered ns (operands i)) b.steps
  steps_fit ns is = All-weaker (λ (i : Instr). All (λ a. a < length b.reads + length b.steps) (operands i)) (λ (i : Instr). AreRenumbered ns (operands i)) (λ i h. all_fit ns is (operands i) h) b.steps ok.steps

  pub writes_fit : (ns : Numbers) → AreOf held b.reads ns → All (λ (x : Write). IsRenumbered ns x.value) b.writes
  writes_fit ns is = All-weaker (λ (x : Write). x.value < length b.reads + length b.steps) (λ (x : Write). IsRenumbered ns x.value) (λ x h. fits ns is x.value h) b.writes ok.writes

  pub jump_fits : (ns : Numbers) → AreOf held b.reads ns → AreRenumbered ns (jump_values b.jump)
  jump_fits ns is = all_fit ns is (jump_values b.jump) ok.jump

  -- the table after the writes
  pub written_is : (ns : Numbers) → AreOf held b.reads ns → (v : ℕ)
      → get_or (with_writes (number_in ns) (with_places (replicate n (length held)) 0 held) b.writes) v ns.held ≡ after_writes (new_number held b.reads) b.writes v (place_in held v)
  written_is ns is v =
      let table : List ℕ = with_places (replicate n (length held)) 0 held in
      written_entry (number_in ns) b.writes table v ns.held
      (recursion_from_All (λ (x : Write). x.var < length table) b.writes
      (All-weaker (λ (x : Write). x.var < n) (λ (x : Write). x.var < length table) (λ x lt. let e = places_length held (replicate n (length held)) 0 in omega (arith, length-replicate n (length held))) b.writes ok.written))
      ∙ ap (λ (f : ℕ → ℕ). after_writes f b.writes v (get_or table v ns.held)) (functions_same held b.reads ns is)
      ∙ ap (after_writes (new_number held b.reads) b.writes v) (ap (get_or table v) is.held_is ∙ places_are n held ok.ascending ok.below v)

  -- the whole block
  pub block_made : (args : List ℕ) (first : List Instr) (table : List (List ℕ)) (ns : Numbers) (now : List ℕ) (steps : List Instr) (j : Jump) → AreOf held b.reads ns
      → steps ≡ first ++ map (renamed (number_in ns)) b.steps
      → j ≡ jump_by table (number_in ns) (λ v. get_or now v ns.held) b.jump → now ≡ with_writes (number_in ns) (with_places (replicate n (length held)) 0 held) b.writes
      → record { args = args; steps = steps; jump = j } ≡ block_with args first table held b
  block_made args first table ns now steps j is s k w =
      ap (λ (xs : List Instr). record { args = args; steps = xs; jump = j }) (s ∙ ap (λ (f : ℕ → ℕ). first ++ map (renamed f) b.steps) (functions_same held b.reads ns is))
      ∙ ap (λ (x : Jump). record { args = args; steps = first ++ new_steps held b; jump = x })
      (k ∙ ap (λ (xs : List ℕ). jump_by table (number_in ns) (λ v. get_or xs v ns.held) b.jump) w
      ∙ ap (λ (f : ℕ → ℕ). jump_by table f (λ v. get_or (with_writes (number_in ns) (with_places (replicate n (length held)) 0 held) b.writes) v ns.held) b.jump) (functions_same held b.reads ns is)
      ∙ jump_same table held b (λ v. get_or (with_writes (number_in ns) (with_places (replicate n (length held)) 0 held) b.writes) v ns.held) b.jump (written_is ns is))
