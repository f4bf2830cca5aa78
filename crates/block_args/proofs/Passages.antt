-- A block over arguments makes what the block over variables makes.
use Rattle.std.proofs.Common.{◌≡◌, ℕ, zero, suc, ◌+◌, ◌-◌, ◌<◌, ◌⊎◌, List, [], ◌∷◌, map, length, get_or, Some, None, refl, sym, ◌∙◌, ap, subst, arith, length-append, inl, inr}
use Rattle.std.specs.Prelude.{Bool, true, false, ◌==◌, set, if◌then◌else◌, slice_get}
use Rattle.std.specs.List.{Contains}
use Rattle.std.proofs.lemmas.Bool.{lt-ltb, le-ltb, eqb-true, eq-eqb}
use Rattle.std.proofs.lemmas.Option.{same_Some}
use Rattle.std.proofs.lemmas.List.{get_or_append_left, get_or-map, get_or-set_same, get_or-set_other, length-map, length-set}
use Rattle.ir.specs.declared.instr.Instr.{Instr}
use Rattle.ir.specs.declared.cfg.CfgBlock.{CfgBlock}
use Rattle.ir.specs.declared.cfg.CfgJump.{CfgJump}
use Rattle.ir.specs.declared.cfg.CfgJump.TheVariants.{Go, Two, Return}
use Rattle.ir.specs.declared.cfg.Write.{Write}
use Rattle.ir.specs.Steps.{Work, value_at, after_step, through, beginning, step_value}
use Rattle.ir.specs.Visits.{Onward, onto, leaves}
use Rattle.ir.specs.Graphs.{side, onward_of}
use Rattle.ir.specs.Variables.{read_values, written, var_onward}
use Rattle.ir.specs.Renaming.{SameWork, MayName, StepsName}
use Rattle.ir.proofs.Renamings.{renamed_steps, renamed_values}
use Rattle.block_args.specs.Live.{targets, IsWritten}
use Rattle.block_args.specs.Tables.{listed_at}
use Rattle.block_args.specs.Arguments.{place_in, new_number, after_writes, handed_to, new_jump, new_steps}
use Rattle.block_args.proofs.Held.{placed, held_value}

-- ---- numbers of values

pub number_of_read : (held reads : List ℕ) (a : ℕ) → a < length reads → new_number held reads a ≡ place_in held (get_or reads a 0)
number_of_read held reads a h = ap (λ (b : Bool). if b then place_in held (get_or reads a 0) else (length held + (a - length reads))) (lt-ltb a (length reads) h)

pub number_of_step : (held reads : List ℕ) (i : ℕ) → new_number held reads (length reads + i) ≡ length held + i
number_of_step held reads i =
    let n = length reads + i in
    ap (λ (b : Bool). if b then place_in held (get_or reads n 0) else (length held + (n - length reads))) (le-ltb n (length reads) (omega arith)) ∙ omega arith

-- values stay
pub stays : (is : List Instr) (w : Work) (i : ℕ) → i < length w.values → value_at (through is w).values i ≡ value_at w.values i
stays [] w i h = refl
stays (j ∷ is) w i h =
    let x = step_value j w.values w.arrays in
    stays is (after_step j w) i (omega (arith, length-append w.values (x ∷ []))) ∙ get_or_append_left w.values (x ∷ []) 0 i h

-- what a block names: values of its reads and steps
abbrev pub every : ℕ → Bool
every a = true

abbrev pub IsNamed : CfgBlock → ℕ → Type 0
IsNamed b a = MayName every (length b.reads) (length b.steps) a

abbrev pub NamesJump : CfgBlock → CfgJump → Type 0
NamesJump b (Go c) = Unit {0}
NamesJump b (Two c yes_part no_part) = IsNamed b c
NamesJump b (Return None) = Unit {0}
NamesJump b (Return (Some v)) = IsNamed b v

abbrev pub NamesWrites : CfgBlock → List Write → Type 0
NamesWrites b [] = Unit {0}
NamesWrites b (x ∷ xs) = IsNamed b x.value × NamesWrites b xs

pub record Names (held : List ℕ) (b : CfgBlock) : Type 0 where
  pub reads : (a : ℕ) → a < length b.reads → Contains held (get_or b.reads a 0)
  pub steps : StepsName every (length b.reads) 0 b.steps
  pub writes : NamesWrites b b.writes
  pub jump : NamesJump b b.jump

-- each variable that is wanted is written or held, and is a variable
pub record Handed (held wanted : List ℕ) (b : CfgBlock) (n : ℕ) : Type 0 where
  pub each : (v : ℕ) → Contains wanted v → IsWritten b.writes v ⊎ Contains held v
  pub below : (v : ℕ) → Contains wanted v → v < n

pub this_or_later : (x : Write) (xs : List Write) (v : ℕ) → IsWritten (x ∷ xs) v → (x.var ≡ v) ⊎ IsWritten xs v
this_or_later x xs v w = by w.place w.is_write
  where
    by : (k : ℕ) → slice_get (x ∷ xs) k ≡ Some (record { var = v; value = w.value }) → (x.var ≡ v) ⊎ IsWritten xs v
    by zero h = inl (ap (λ (y : Write). y.var) (same_Some x (record { var = v; value = w.value }) h))
    by (suc k) h = inr (record { place = k; value = w.value; is_write = h })

alike : (f : ℕ → ℕ) (g : ℕ → ℕ) (h : ℕ → ℕ) (xs : List ℕ) → ((x : ℕ) → Contains xs x → f (g x) ≡ h x) → map f (map g xs) ≡ map h xs
alike f g h [] e = refl
alike f g h (x ∷ xs) e =
    let rest = alike f g h xs (λ y k. e y (suc k.0, (let lt = k.1 in omega arith), k.2)) in
    ap (λ y. y ∷ map f (map g xs)) (e x (0, omega arith, refl)) ∙ ap (λ l. h x ∷ l) rest

-- where a visit leads, with what the next block holds in place of all variables
abbrev pub lowered : List (List ℕ) → Onward → Onward
lowered table (onto c vs) = onto c (map (value_at vs) (listed_at table c))
lowered table (leaves r) = leaves r

lowered_side : (table : List (List ℕ)) (z : ℕ) (a b : Onward) → lowered table (side z a b) ≡ side z (lowered table a) (lowered table b)
lowered_side table zero a b = refl
lowered_side table (suc z) a b = refl

module _ (b : CfgBlock) (held vars : List ℕ) (arrays : List (List ℕ)) (names : Names held b) where
  abbrev pub f : ℕ → ℕ
  f = new_number held b.reads

  abbrev pub old : Work
  old = through b.steps (beginning (read_values vars b) arrays)

  abbrev pub new : Work
  new = through (new_steps held b) (beginning (map (value_at vars) held) arrays)

  first_same : SameWork every f (length b.reads) (length held) 0 (beginning (read_values vars b) arrays) (beginning (map (value_at vars) held) arrays)
  first_same = record {
    long = omega (arith, length-map b.reads (value_at vars));
    long_new = omega (arith, length-map held (value_at vars));
    arrays = refl;
    strays = refl;
    first = λ a lt kept.
        let e = number_of_read held b.reads a lt in
        let v = get_or b.reads a 0 in
        let p = placed held v (names.reads a lt) in (
          subst (λ n. n < length held) (sym e) p.below,
          ap (value_at (map (value_at vars) held)) e ∙ held_value held vars v (names.reads a lt) ∙ sym (get_or-map (value_at vars) b.reads a 0 0 lt),
        );
    steps = λ i lt. absurd (omega arith);
  }

  pub same : SameWork every f (length b.reads) (length held) (0 + length b.steps) old new
  same = renamed_steps every f (length b.reads) (length held) (number_of_step held b.reads) b.steps 0 (beginning (read_values vars b) arrays) (beginning (map (value_at vars) held) arrays) first_same names.steps

  value_same : (a : ℕ) → IsNamed b a → value_at new.values (f a) ≡ value_at old.values a
  value_same a h =
      let e : length b.steps ≡ 0 + length b.steps = omega arith in
      renamed_values every f (length b.reads) (length held) (number_of_step held b.reads) (0 + length b.steps) old new a same (subst (λ k. MayName every (length b.reads) k a) e h)

  kept_same : (v : ℕ) → Contains held v → value_at new.values (place_in held v) ≡ value_at vars v
  kept_same v h =
      let p = placed held v h in
      let lt : place_in held v < length (map (value_at vars) held) = let q = p.below in omega (arith, length-map held (value_at vars)) in
      stays (new_steps held b) (beginning (map (value_at vars) held) arrays) (place_in held v) lt ∙ held_value held vars v h

  -- one more write
  write_same : (x : Write) (now : List ℕ) (v number : ℕ) → IsNamed b x.value → v < length now → (value_at new.values number ≡ value_at now v) ⊎ (x.var ≡ v)
      → value_at new.values (if x.var == v then f x.value else number) ≡ value_at (set now x.var (value_at old.values x.value)) v
  write_same x now v number h lt good = by (x.var == v) refl good
    where
      by : (c : Bool) → (x.var == v) ≡ c → (value_at new.values number ≡ value_at now v) ⊎ (x.var ≡ v)
          → value_at new.values (if c then f x.value else number) ≡ value_at (set now x.var (value_at old.values x.value)) v
      by true e good =
          let is : x.var ≡ v = eqb-true x.var v e in
          value_same x.value h ∙ sym (ap (λ (i : ℕ). value_at (set now i (value_at old.values x.value)) v) is ∙ get_or-set_same now v (value_at old.values x.value) 0 lt)
      by false e (inl same) = same ∙ sym (get_or-set_other now x.var v (value_at old.values x.value) 0 (λ q. let t : (x.var == v) ≡ true = eq-eqb x.var v (sym q) in absurd (cc)))
      by false e (inr is) = absurd (let t : (x.var == v) ≡ true = eq-eqb x.var v is in cc)

  after_same : (xs : List Write) (now : List ℕ) (v number : ℕ) → NamesWrites b xs → v < length now → (value_at new.values number ≡ value_at now v) ⊎ IsWritten xs v
      → value_at new.values (after_writes f xs v number) ≡ value_at (written old.values xs now) v
  after_same [] now v number named lt (inl e) = e
  after_same [] now v number named lt (inr w) = absurd (let h = w.is_write in cc)
  after_same (x ∷ xs) now v number named lt good =
      after_same xs (set now x.var (value_at old.values x.value)) v (if x.var == v then f x.value else number) named.1 (omega (arith, length-set now x.var (value_at old.values x.value), lt)) (more good)
    where
      more : (value_at new.values number ≡ value_at now v) ⊎ IsWritten (x ∷ xs) v
          → (value_at new.values (if x.var == v then f x.value else number) ≡ value_at (set now x.var (value_at old.values x.value)) v) ⊎ IsWritten xs v
      more (inl e) = inl (write_same x now v number named.0 lt (inl e))
      more (inr w) = elim (this_or_later x xs v w) [ inl is ↦ inl (write_same x now v number named.0 lt (inr is)) | inr later ↦ inr later ]

  -- the values that are handed on are those of the variables then
  handed_same : (wanted : List ℕ) → Handed held wanted b (length vars) → map (value_at new.values) (handed_to held wanted b) ≡ map (value_at (written old.values b.writes vars)) wanted
  handed_same wanted h =
      alike (value_at new.values) (λ v. after_writes f b.writes v (place_in held v)) (value_at (written old.values b.writes vars)) wanted
      (λ v is. after_same b.writes vars v (place_in held v) names.writes (h.below v is) (by v (h.each v is)))
    where
      by : (v : ℕ) → IsWritten b.writes v ⊎ Contains held v → (value_at new.values (place_in held v) ≡ value_at vars v) ⊎ IsWritten b.writes v
      by v (inl w) = inr w
      by v (inr k) = inl (kept_same v k)

  pub jump_same : (table : List (List ℕ)) (j : CfgJump) → NamesJump b j → ((c : ℕ) → Contains (targets j) c → Handed held (listed_at table c) b (length vars))
      → onward_of (new_jump table held b j) new.values ≡ lowered table (var_onward j old.values (written old.values b.writes vars))
  jump_same table (Go c) named h = ap (onto c) (handed_same (listed_at table c) (h c (0, omega arith, refl)))
  jump_same table (Two c yes_part no_part) named h =
      let vs = written old.values b.writes vars in
      let y = handed_same (listed_at table yes_part) (h yes_part (0, omega arith, refl)) in
      let n = handed_same (listed_at table no_part) (h no_part (1, omega arith, refl)) in
      ap (λ z. side z (onto yes_part (map (value_at new.values) (handed_to held (listed_at table yes_part) b))) (onto no_part (map (value_at new.values) (handed_to held (listed_at table no_part) b)))) (value_same c named)
      ∙ ap (λ l. side (value_at old.values c) (onto yes_part l) (onto no_part (map (value_at new.values) (handed_to held (listed_at table no_part) b)))) y
      ∙ ap (λ l. side (value_at old.values c) (onto yes_part (map (value_at vs) (listed_at table yes_part))) (onto no_part l)) n
      ∙ sym (lowered_side table (value_at old.values c) (onto yes_part vs) (onto no_part vs))
  jump_same table (Return None) named h = refl
  jump_same table (Return (Some v)) named h = ap (λ z. leaves (Some z)) (value_same v named)
