-- Trimmed blocks are trim.
use Rattle.std.proofs.Common.{◌≡◌, ℕ, zero, suc, ◌+◌, ◌-◌, ◌<◌, List, [], ◌∷◌, ◌++◌, map, length, Some, None, refl, sym, ◌∙◌, ap, subst, arith, inl, inr}
use Rattle.std.specs.Prelude.{Bool, true, false, ◌==◌, not, cond, filter, slice_get, All, if◌then◌else◌}
use Rattle.std.specs.List.{AllByRecursion, Contains, flat_map}
use Rattle.std.proofs.lemmas.Bool.{eqb-true, eq-eqb, or_cases, or_parts, cases_lt}
use Rattle.std.proofs.lemmas.Option.{same_Some, slice_get_within}
use Rattle.std.proofs.lemmas.List.Elements.{All-from_recursion}
use Rattle.ir.specs.declared.instr.Instr.{Instr}
use Rattle.ir.specs.declared.instr.Instr.TheVariants.{Const, One, Two, Select, Load, Store}
use Rattle.ir.specs.declared.cfg.CfgBlock.{CfgBlock}
use Rattle.ir.specs.declared.cfg.CfgJump.{CfgJump}
use Rattle.ir.specs.declared.cfg.CfgJump.TheVariants as jump
use Rattle.ir.specs.declared.cfg.Write.{Write}
use Rattle.ir.specs.Renaming.{renamed, operands}
use Rattle.ir.specs.Variables.{VarGraph}
use Rattle.block_trim.specs.Trimming.{is_used, is_written_by, is_unchanged, last_writes, kept_writes, jump_operands, uses, renamed_write, renamed_jump, block_uses, trimmed_number, trimmed_block, trimmed}
use Rattle.block_trim.specs.Shares.{IsTrim}
use Rattle.block_trim.proofs.Written.{all_last, all_filtered, all_changed}
use Rattle.block_trim.proofs.Uses.{first_used, later_used, used_left, used_right, number_of_read, number_of_step, each_placed}
use Rattle.block_trim.proofs.Fits.{writes_used}
use Rattle.block_trim.proofs.Passages.{kept, new_reads, long_kept, read_placed, m}

-- ---- what is used after the renaming

abbrev Moves : (ℕ → ℕ) → List ℕ → List ℕ → Type 0
Moves f xs ys = (a : ℕ) → is_used xs a ≡ true → is_used ys (f a) ≡ true

map_moves : (f : ℕ → ℕ) (xs : List ℕ) → Moves f xs (map f xs)
map_moves f [] a h = absurd (cc)
map_moves f (x ∷ xs) a h = elim (or_cases (x == a) (is_used xs a) h) [
  | inl e ↦ subst (λ b. is_used (f x ∷ map f xs) (f b) ≡ true) (eqb-true x a e) (first_used (f x) (map f xs))
  | inr e ↦ later_used (f x) (map f xs) (f a) (map_moves f xs a e)
]

append_moves : (f : ℕ → ℕ) (xs ys us vs : List ℕ) → Moves f xs us → Moves f ys vs → Moves f (xs ++ ys) (us ++ vs)
append_moves f [] ys us vs p q a h = used_right us vs (f a) (q a h)
append_moves f (x ∷ xs) ys us vs p q a h = elim (or_cases (x == a) (is_used (xs ++ ys) a) h) [
  | inl e ↦ used_left us vs (f a) (p a (subst (λ b. is_used (x ∷ xs) b ≡ true) (eqb-true x a e) (first_used x xs)))
  | inr e ↦ append_moves f xs ys us vs (λ b k. p b (later_used x xs b k)) q a e
]

step_moves : (f : ℕ → ℕ) (i : Instr) → Moves f (operands i) (operands (renamed f i))
step_moves f (Const w n) a h = absurd (cc)
step_moves f (One op x) a h = map_moves f (x ∷ []) a h
step_moves f (Two op x y) a h = map_moves f (x ∷ y ∷ []) a h
step_moves f (Select w c x y) a h = map_moves f (c ∷ x ∷ y ∷ []) a h
step_moves f (Load b p) a h = map_moves f (p ∷ []) a h
step_moves f (Store b p v) a h = map_moves f (p ∷ v ∷ []) a h

steps_move : (f : ℕ → ℕ) (is : List Instr) → Moves f (flat_map operands is) (flat_map operands (map (renamed f) is))
steps_move f [] a h = absurd (cc)
steps_move f (i ∷ is) a h = append_moves f (operands i) (flat_map operands is) (operands (renamed f i)) (flat_map operands (map (renamed f) is)) (step_moves f i) (steps_move f is) a h

writes_move : (f : ℕ → ℕ) (xs : List Write) → Moves f (map (λ (x : Write). x.value) xs) (map (λ (x : Write). x.value) (map (renamed_write f) xs))
writes_move f [] a h = absurd (cc)
writes_move f (x ∷ xs) a h = elim (or_cases (x.value == a) (is_used (map (λ (y : Write). y.value) xs) a) h) [
  | inl e ↦ subst (λ b. is_used (map (λ (y : Write). y.value) (map (renamed_write f) (x ∷ xs))) (f b) ≡ true) (eqb-true x.value a e) (first_used (f x.value) (map (λ (y : Write). y.value) (map (renamed_write f) xs)))
  | inr e ↦ later_used (f x.value) (map (λ (y : Write). y.value) (map (renamed_write f) xs)) (f a) (writes_move f xs a e)
]

jump_moves : (f : ℕ → ℕ) (j : CfgJump) → Moves f (jump_operands j) (jump_operands (renamed_jump f j))
jump_moves f (jump.Go b) a h = absurd (cc)
jump_moves f (jump.Two c yes_part no_part) a h = map_moves f (c ∷ []) a h
jump_moves f (jump.Return None) a h = absurd (cc)
jump_moves f (jump.Return (Some v)) a h = map_moves f (v ∷ []) a h

block_moves : (b : CfgBlock) → Moves (trimmed_number b) (block_uses b) (uses (trimmed_block b).steps (trimmed_block b).writes (trimmed_block b).jump)
block_moves b =
    let f = trimmed_number b in
    let ws = kept_writes b.reads b.writes in
    let values : List Write → List ℕ = map (λ (x : Write). x.value) in
    append_moves f (flat_map operands b.steps) (values ws ++ jump_operands b.jump) (flat_map operands (map (renamed f) b.steps)) (values (map (renamed_write f) ws) ++ jump_operands (renamed_jump f b.jump))
    (steps_move f b.steps)
    (append_moves f (values ws) (jump_operands b.jump) (values (map (renamed_write f) ws)) (jump_operands (renamed_jump f b.jump)) (writes_move f ws) (jump_moves f b.jump))

contains_used : (xs : List ℕ) (a : ℕ) → is_used xs a ≡ true → Contains xs a
contains_used [] a h = absurd (cc)
contains_used (x ∷ xs) a h = elim (or_cases (x == a) (is_used xs a) h) [
  | inl e ↦ (0, omega arith, eqb-true x a e)
  | inr e ↦ let r = contains_used xs a e in (suc r.0, (let lt = r.1 in omega arith), r.2)
]

reads_used : (b : CfgBlock) (a : ℕ) → a < length (new_reads b) → Contains (uses (trimmed_block b).steps (trimmed_block b).writes (trimmed_block b).jump) a
reads_used b a lt =
    let p = each_placed (block_uses b) 0 b.reads a lt in
    let u : kept b p.at ≡ true = ap (kept b) (let q : p.at ≡ 0 + p.at = omega arith in q) ∙ p.use_of in
    let is : trimmed_number b p.at ≡ a = number_of_read (block_uses b) (length b.reads) p.at p.below ∙ p.number in
    contains_used (uses (trimmed_block b).steps (trimmed_block b).writes (trimmed_block b).jump) a (subst (λ k. is_used (uses (trimmed_block b).steps (trimmed_block b).writes (trimmed_block b).jump) k ≡ true) is (block_moves b p.at u))

-- ---- writes

-- where a value that is used reads a variable under its new number, it did before
reads_before : (b : CfgBlock) (a v : ℕ) → kept b a ≡ true → slice_get (new_reads b) (trimmed_number b a) ≡ Some v → slice_get b.reads a ≡ Some v
reads_before b a v u h = elim (cases_lt a (length b.reads)) [
  | inl lt ↦ sym (read_placed b a lt u) ∙ h
  | inr ge ↦
      let k : ℕ = a - length b.reads in
      let e : trimmed_number b a ≡ m b + k = ap (trimmed_number b) (let q : a ≡ length b.reads + k = omega arith in q) ∙ number_of_step (block_uses b) (length b.reads) k in
      absurd (let lt = slice_get_within (new_reads b) (trimmed_number b a) v h in omega (arith, e, long_kept b))
]

changed : (b : CfgBlock) (xs : List Write) → ((a : ℕ) → is_used (map (λ (x : Write). x.value) xs) a ≡ true → kept b a ≡ true) → AllByRecursion (λ x. ¬ (slice_get b.reads x.value ≡ Some x.var)) xs
    → AllByRecursion (λ x. ¬ (slice_get (new_reads b) x.value ≡ Some x.var)) (map (renamed_write (trimmed_number b)) xs)
changed b [] u h = tt
changed b (x ∷ xs) u h =
    let rest : List ℕ = map (λ (y : Write). y.value) xs in
    ((λ e. h.0 (reads_before b x.value x.var (u x.value (first_used x.value rest)) e)), changed b xs (λ a k. u a (later_used x.value rest a k)) h.1)

-- no later write is to the variable
abbrev NoneTo : ℕ → List Write → Type 0
NoneTo v xs = AllByRecursion (λ (x : Write). ¬ (v ≡ x.var)) xs

none_to : (v : ℕ) (xs : List Write) → is_written_by xs v ≡ false → NoneTo v xs
none_to v [] h = tt
none_to v (x ∷ xs) h =
    let p = or_parts (x.var == v) (is_written_by xs v) h in
    ((λ e. let t : (x.var == v) ≡ true = eq-eqb x.var v (sym e) in let f = p.0 in absurd (cc)), none_to v xs p.1)

abbrev Once : List Write → Type 0
Once [] = Unit {0}
Once (x ∷ xs) = NoneTo x.var xs × Once xs

once_last : (xs : List Write) → Once (last_writes xs)
once_last [] = tt
once_last (x ∷ xs) = by (is_written_by xs x.var) refl (once_last xs)
  where
    by : (c : Bool) → is_written_by xs x.var ≡ c → Once (last_writes xs) → Once (if c then last_writes xs else (x ∷ last_writes xs))
    by true e rest = rest
    by false e rest = (all_last (λ y. ¬ (x.var ≡ y.var)) xs (none_to x.var xs e), rest)

once_filtered : (p : Write → Bool) (xs : List Write) → Once xs → Once (filter p xs)
once_filtered p [] h = tt
once_filtered p (x ∷ xs) h = by (p x) (once_filtered p xs h.1)
  where
    by : (c : Bool) → Once (filter p xs) → Once (cond c (x ∷ filter p xs) (filter p xs))
    by true rest = (all_filtered p (λ y. ¬ (x.var ≡ y.var)) xs h.0, rest)
    by false rest = rest

none_renamed : (f : ℕ → ℕ) (v : ℕ) (xs : List Write) → NoneTo v xs → NoneTo v (map (renamed_write f) xs)
none_renamed f v [] h = tt
none_renamed f v (x ∷ xs) h = (h.0, none_renamed f v xs h.1)

once_renamed : (f : ℕ → ℕ) (xs : List Write) → Once xs → Once (map (renamed_write f) xs)
once_renamed f [] h = tt
once_renamed f (x ∷ xs) h = (none_renamed f x.var xs h.0, once_renamed f xs h.1)

none_at : (v : ℕ) (xs : List Write) (i : ℕ) (x : Write) → NoneTo v xs → slice_get xs i ≡ Some x → ¬ (v ≡ x.var)
none_at v [] i x h is = absurd (cc)
none_at v (y ∷ ys) zero x h is = subst (λ (z : Write). ¬ (v ≡ z.var)) (same_Some y x is) h.0
none_at v (y ∷ ys) (suc i) x h is = none_at v ys i x h.1 is

once_at : (xs : List Write) → Once xs → (i j : ℕ) (x y : Write) → slice_get xs i ≡ Some x → slice_get xs j ≡ Some y → i < j → ¬ (x.var ≡ y.var)
once_at [] h i j x y p q lt = absurd (cc)
once_at (z ∷ zs) h zero zero x y p q lt = absurd (omega arith)
once_at (z ∷ zs) h zero (suc j) x y p q lt = subst (λ (w : Write). ¬ (w.var ≡ y.var)) (same_Some z x p) (none_at z.var zs j y h.0 q)
once_at (z ∷ zs) h (suc i) zero x y p q lt = absurd (omega arith)
once_at (z ∷ zs) h (suc i) (suc j) x y p q lt = once_at zs h.1 i j x y p q (omega arith)

-- ---- blocks

is_trim : (b : CfgBlock) → IsTrim (trimmed_block b)
is_trim b =
    let f = trimmed_number b in
    let ws = kept_writes b.reads b.writes in
    record {
      reads = reads_used b;
      changes = All-from_recursion (λ x. ¬ (slice_get (new_reads b) x.value ≡ Some x.var)) (map (renamed_write f) ws) (changed b ws (writes_used b) (all_changed b.reads b.writes));
      once = once_at (map (renamed_write f) ws) (once_renamed f ws (once_filtered (λ x. not (is_unchanged b.reads x)) (last_writes b.writes) (once_last b.writes)));
    }

all_trim : (bs : List CfgBlock) → AllByRecursion IsTrim (map trimmed_block bs)
all_trim [] = tt
all_trim (b ∷ bs) = (is_trim b, all_trim bs)

pub blocks_trim : (g : VarGraph) → All IsTrim (trimmed g).blocks
blocks_trim g = All-from_recursion IsTrim (map trimmed_block g.blocks) (all_trim g.blocks)
