-- A trimmed block makes what the block makes.
use Rattle.std.proofs.Common.{◌≡◌, ℕ, ◌+◌, ◌<◌, List, [], ◌∷◌, map, length, get_or, Some, None, refl, sym, ◌∙◌, ap, subst, arith, length-append}
use Rattle.std.specs.Prelude.{Bool, true, set, slice_get, option_map}
use Rattle.std.specs.List.{AllByRecursion}
use Rattle.std.proofs.lemmas.Option.{slice_get_within, get_or_from_slice_get, slice_get-map, slice_get-get_or}
use Rattle.std.proofs.lemmas.List.{get_or_append_left, length-map}
use Rattle.ir.specs.declared.instr.Instr.{Instr}
use Rattle.ir.specs.declared.cfg.CfgBlock.{CfgBlock}
use Rattle.ir.specs.declared.cfg.CfgJump.{CfgJump}
use Rattle.ir.specs.declared.cfg.CfgJump.TheVariants.{Go, Two, Return}
use Rattle.ir.specs.declared.cfg.Write.{Write}
use Rattle.ir.specs.Steps.{Work, value_at, step_value, after_step, through, beginning}
use Rattle.ir.specs.Visits.{onto, leaves}
use Rattle.ir.specs.Graphs.{side}
use Rattle.ir.specs.Variables.{read_values, written, var_onward}
use Rattle.ir.specs.Renaming.{SameWork, MayName, StepsName}
use Rattle.ir.proofs.Renamings.{renamed_steps, renamed_values}
use Rattle.block_trim.specs.Trimming.{is_unchanged, is_used, kept_writes, kept_reads, used_among, jump_operands, renamed_write, renamed_jump, block_uses, trimmed_number, trimmed_block}
use Rattle.block_trim.proofs.Written.{Restores, kept_written, unchanged_read}
use Rattle.block_trim.proofs.Uses.{number_of_read, number_of_step, length_kept, placed}

-- values stay
stays : (is : List Instr) (w : Work) (i : ℕ) → i < length w.values → value_at (through is w).values i ≡ value_at w.values i
stays [] w i h = refl
stays (j ∷ is) w i h =
    let x = step_value j w.values w.arrays in
    stays is (after_step j w) i (omega (arith, length-append w.values (x ∷ []))) ∙ get_or_append_left w.values (x ∷ []) 0 i h

-- which values a block may use: reads that are used, and values of steps
abbrev pub kept : CfgBlock → ℕ → Bool
kept b = is_used (block_uses b)

abbrev pub MayUse : CfgBlock → ℕ → Type 0
MayUse b a = MayName (kept b) (length b.reads) (length b.steps) a

abbrev pub AllMayBeUsed : CfgBlock → List ℕ → Type 0
AllMayBeUsed b xs = AllByRecursion (MayUse b) xs

pub record UsesValues (b : CfgBlock) : Type 0 where
  pub steps : StepsName (kept b) (length b.reads) 0 b.steps
  pub writes : AllByRecursion (λ x. MayUse b x.value) (kept_writes b.reads b.writes)
  pub jump : AllMayBeUsed b (jump_operands b.jump)

module _ (b : CfgBlock) where
  abbrev n : ℕ
  n = length b.reads

  abbrev pub m : ℕ
  m = used_among (block_uses b) 0 (length b.reads)

  abbrev pub new_reads : List ℕ
  new_reads = kept_reads (block_uses b) 0 b.reads

  pub long_kept : length new_reads ≡ m
  long_kept = length_kept (block_uses b) 0 b.reads

  -- a read that is used stands at its new number
  pub read_placed : (a : ℕ) → a < n → kept b a ≡ true → slice_get new_reads (trimmed_number b a) ≡ slice_get b.reads a
  read_placed a lt u =
      let e : trimmed_number b a ≡ used_among (block_uses b) 0 a = number_of_read (block_uses b) n a lt in
      ap (slice_get new_reads) e ∙ placed (block_uses b) 0 b.reads a lt (ap (kept b) (let q : 0 + a ≡ a = omega arith in q) ∙ u)

module _ (b : CfgBlock) (vars : List ℕ) (arrays : List (List ℕ)) where
  -- the value of a read
  read_value : (rs : List ℕ) (k v : ℕ) → slice_get rs k ≡ Some v → value_at (map (value_at vars) rs) k ≡ value_at vars v
  read_value rs k v h =
      get_or_from_slice_get (map (value_at vars) rs) k (value_at vars v) 0 (slice_get-map (value_at vars) rs k ∙ ap (option_map (value_at vars)) h)

  abbrev pub old : Work
  old = through b.steps (beginning (read_values vars b) arrays)

  abbrev pub new : Work
  new = through (trimmed_block b).steps (beginning (read_values vars (trimmed_block b)) arrays)

  first_same : SameWork (kept b) (trimmed_number b) (length b.reads) (m b) 0 (beginning (read_values vars b) arrays) (beginning (read_values vars (trimmed_block b)) arrays)
  first_same = record {
    long = omega (arith, length-map b.reads (value_at vars));
    long_new = omega (arith, length-map (new_reads b) (value_at vars), long_kept b);
    arrays = refl;
    strays = refl;
    first = λ a lt u.
        let v = get_or b.reads a 0 in
        let is : slice_get b.reads a ≡ Some v = slice_get-get_or b.reads a 0 lt in
        let there : slice_get (new_reads b) (trimmed_number b a) ≡ Some v = read_placed b a lt u ∙ is in
        let below : trimmed_number b a < length (new_reads b) = slice_get_within (new_reads b) (trimmed_number b a) v there in
        (subst (λ k. trimmed_number b a < k) (long_kept b) below, read_value (new_reads b) (trimmed_number b a) v there ∙ sym (read_value b.reads a v is));
    steps = λ i lt. absurd (omega arith);
  }

  module _ (names : UsesValues b) where
    pub same : SameWork (kept b) (trimmed_number b) (length b.reads) (m b) (0 + length b.steps) old new
    same = renamed_steps (kept b) (trimmed_number b) (length b.reads) (m b) (number_of_step (block_uses b) (length b.reads)) b.steps 0
        (beginning (read_values vars b) arrays) (beginning (read_values vars (trimmed_block b)) arrays) first_same names.steps

    value_same : (a : ℕ) → MayUse b a → value_at new.values (trimmed_number b a) ≡ value_at old.values a
    value_same a h =
        let e : length b.steps ≡ 0 + length b.steps = omega arith in
        renamed_values (kept b) (trimmed_number b) (length b.reads) (m b) (number_of_step (block_uses b) (length b.reads)) (0 + length b.steps) old new a same
        (subst (λ k. MayName (kept b) (length b.reads) k a) e h)

    writes_same : (xs : List Write) (now : List ℕ) → AllByRecursion (λ x. MayUse b x.value) xs → written new.values (map (renamed_write (trimmed_number b)) xs) now ≡ written old.values xs now
    writes_same [] now h = refl
    writes_same (x ∷ xs) now h =
        ap (λ z. written new.values (map (renamed_write (trimmed_number b)) xs) (set now x.var z)) (value_same x.value h.0) ∙ writes_same xs (set now x.var (value_at old.values x.value)) h.1

    -- a write that changes nothing has the value of its variable
    restores : (xs : List Write) → Restores b.reads old.values vars xs
    restores [] = tt
    restores (x ∷ xs) = ((λ u. restored u), restores xs)
      where
        restored : is_unchanged b.reads x ≡ true → value_at old.values x.value ≡ value_at vars x.var
        restored u =
            let is = unchanged_read b.reads x u in
            let lt : x.value < length (map (value_at vars) b.reads) = omega (arith, slice_get_within b.reads x.value x.var is, length-map b.reads (value_at vars)) in
            stays b.steps (beginning (read_values vars b) arrays) x.value lt ∙ read_value b.reads x.value x.var is

    pub written_same : written new.values (trimmed_block b).writes vars ≡ written old.values b.writes vars
    written_same = writes_same (kept_writes b.reads b.writes) vars names.writes ∙ kept_written b.reads old.values b.writes vars (restores b.writes)

    jump_same : (j : CfgJump) (vs : List ℕ) → AllMayBeUsed b (jump_operands j) → var_onward (renamed_jump (trimmed_number b) j) new.values vs ≡ var_onward j old.values vs
    jump_same (Go c) vs h = refl
    jump_same (Two c yes_part no_part) vs h = ap (λ z. side z (onto yes_part vs) (onto no_part vs)) (value_same c h.0)
    jump_same (Return None) vs h = refl
    jump_same (Return (Some v)) vs h = ap (λ z. leaves (Some z)) (value_same v h.0)

    pub onward_same : var_onward (trimmed_block b).jump new.values (written new.values (trimmed_block b).writes vars) ≡ var_onward b.jump old.values (written old.values b.writes vars)
    onward_same = ap (var_onward (trimmed_block b).jump new.values) written_same ∙ jump_same b.jump (written old.values b.writes vars) names.jump
