-- The reserved words as a list, and each one's place in it.
use Rattle.std.proofs.Common.{⊎_elim, ◌≡◌, ◌↔◌, ℕ, ◌<◌, ◌==◌, Bool, true, false, cond, not, ◌||◌, length, List, [], ◌∷◌, ◌++◌, get_or, map, find, All, Option, Some, None, unwrap_or, IfSome, IsSome, IsNone, refl, sym, ◌∙◌, ap, subst, arith}
use Rattle.std.proofs.lemmas.Bool.{false≢true, cases_Bool, eq-eqb}
use Rattle.std.proofs.lemmas.List.Folds.{list_any_none}
use Rattle.std.proofs.lemmas.List.Sums.{AllPass-from_list_all}
use Rattle.std.proofs.lemmas.Slice.Eq.{bytes_eq-Decides}
use Rattle.std.specs.List.{list_any}
use Rattle.std.specs.Prelude.{bytes_eq}
use Rattle.c_ast.specs.Lengths.{has_each}
use Rattle.std.proofs.lemmas.List.{get_or-map}
use Rattle.std.proofs.lemmas.List.Elements.{All-get_or, All-head, All-tail}
use Rattle.c_ast.specs.Pieces.{keys, key_of}
use Rattle.c_ast.specs.Texts.{c99_keywords, fixed_width_names, IsReserved, key_text}
use Rattle.c_ast.specs.declared.key.Key.{Key}
use Rattle.c_ast.specs.declared.key.Key.TheVariants as key

place : Key → ℕ
place key.Auto = 0
place key.Break = 1
place key.Case = 2
place key.Char = 3
place key.Const = 4
place key.Continue = 5
place key.Default = 6
place key.Do = 7
place key.Double = 8
place key.Else = 9
place key.Enum = 10
place key.Extern = 11
place key.Float = 12
place key.For = 13
place key.Goto = 14
place key.If = 15
place key.Inline = 16
place key.Int = 17
place key.Long = 18
place key.Register = 19
place key.Restrict = 20
place key.Return = 21
place key.Short = 22
place key.Signed = 23
place key.Sizeof = 24
place key.Static = 25
place key.Struct = 26
place key.Switch = 27
place key.Typedef = 28
place key.Union = 29
place key.Unsigned = 30
place key.Void = 31
place key.Volatile = 32
place key.While = 33
place key.Bool = 34
place key.Complex = 35
place key.Imaginary = 36
place key.Int8 = 37
place key.Int16 = 38
place key.Int32 = 39
place key.Int64 = 40
place key.Uint8 = 41
place key.Uint16 = 42
place key.Uint32 = 43
place key.Uint64 = 44

place_within : (k : Key) → place k < 45
unfolding place
place_within key.Auto = omega arith
place_within key.Break = omega arith
place_within key.Case = omega arith
place_within key.Char = omega arith
place_within key.Const = omega arith
place_within key.Continue = omega arith
place_within key.Default = omega arith
place_within key.Do = omega arith
place_within key.Double = omega arith
place_within key.Else = omega arith
place_within key.Enum = omega arith
place_within key.Extern = omega arith
place_within key.Float = omega arith
place_within key.For = omega arith
place_within key.Goto = omega arith
place_within key.If = omega arith
place_within key.Inline = omega arith
place_within key.Int = omega arith
place_within key.Long = omega arith
place_within key.Register = omega arith
place_within key.Restrict = omega arith
place_within key.Return = omega arith
place_within key.Short = omega arith
place_within key.Signed = omega arith
place_within key.Sizeof = omega arith
place_within key.Static = omega arith
place_within key.Struct = omega arith
place_within key.Switch = omega arith
place_within key.Typedef = omega arith
place_within key.Union = omega arith
place_within key.Unsigned = omega arith
place_within key.Void = omega arith
place_within key.Volatile = omega arith
place_within key.While = omega arith
place_within key.Bool = omega arith
place_within key.Complex = omega arith
place_within key.Imaginary = omega arith
place_within key.Int8 = omega arith
place_within key.Int16 = omega arith
place_within key.Int32 = omega arith
place_within key.Int64 = omega arith
place_within key.Uint8 = omega arith
place_within key.Uint16 = omega arith
place_within key.Uint32 = omega arith
place_within key.Uint64 = omega arith

stands : (k d : Key) → get_or keys (place k) d ≡ k
unfolding place
stands key.Auto d = refl
stands key.Break d = refl
stands key.Case d = refl
stands key.Char d = refl
stands key.Const d = refl
stands key.Continue d = refl
stands key.Default d = refl
stands key.Do d = refl
stands key.Double d = refl
stands key.Else d = refl
stands key.Enum d = refl
stands key.Extern d = refl
stands key.Float d = refl
stands key.For d = refl
stands key.Goto d = refl
stands key.If d = refl
stands key.Inline d = refl
stands key.Int d = refl
stands key.Long d = refl
stands key.Register d = refl
stands key.Restrict d = refl
stands key.Return d = refl
stands key.Short d = refl
stands key.Signed d = refl
stands key.Sizeof d = refl
stands key.Static d = refl
stands key.Struct d = refl
stands key.Switch d = refl
stands key.Typedef d = refl
stands key.Union d = refl
stands key.Unsigned d = refl
stands key.Void d = refl
stands key.Volatile d = refl
stands key.While d = refl
stands key.Bool d = refl
stands key.Complex d = refl
stands key.Imaginary d = refl
stands key.Int8 d = refl
stands key.Int16 d = refl
stands key.Int32 d = refl
stands key.Int64 d = refl
stands key.Uint8 d = refl
stands key.Uint16 d = refl
stands key.Uint32 d = refl
stands key.Uint64 d = refl

-- what holds of each in the list holds of each
pub every : (P : Key → Type 0) → All P keys → (k : Key) → P k
every P all k = subst P (stands k k) (All-get_or P keys (place k) k (place_within k) all)

-- of words that have each of a length, where none is spelled so, no word at all is
not_alike : (j k : Key) (w : List ℕ) → (key_text j ≡ w → ⊥) → key_text k ≡ w → bytes_eq (key_text j) (key_text k) ≡ false
not_alike j k w none is = ⊎_elim (λ yes. absurd (none ((bytes_eq-Decides (key_text j) (key_text k)).0 yes ∙ is))) (λ no. no) (cases_Bool (bytes_eq (key_text j) (key_text k)))

pub none_of_length : (w : List ℕ) (ks : List Key) → has_each (length w) ks ≡ true → All (λ j. key_text j ≡ w → ⊥) ks → (k : Key) → key_text k ≡ w → ⊥
none_of_length w ks has none k is =
    let each : (list_any (λ j. bytes_eq (key_text j) (key_text k)) ks || not (length (key_text k) == length w)) ≡ true
    = every (λ k. (list_any (λ j. bytes_eq (key_text j) (key_text k)) ks || not (length (key_text k) == length w)) ≡ true)
    (λ i d below. AllPass-from_list_all (λ k. list_any (λ j. bytes_eq (key_text j) (key_text k)) ks || not (length (key_text k) == length w)) keys has i d below) k in
    let lacks : list_any (λ j. bytes_eq (key_text j) (key_text k)) ks ≡ false
    = list_any_none (λ j. bytes_eq (key_text j) (key_text k)) ks (λ i d below. not_alike (get_or ks i d) k w (none i d below) is) in
    let same : (length (key_text k) == length w) ≡ true = ap (λ x. length x == length w) is ∙ eq-eqb (length w) (length w) refl in
    false≢true (sym (ap (λ b. b || not (length (key_text k) == length w)) lacks ∙ ap not same) ∙ each)

-- the list spells the reserved words
texts : map key_text keys ≡ c99_keywords ++ fixed_width_names
texts = refl

text_at : (i : ℕ) (d : Key) (e : List ℕ) → i < 45 → get_or (c99_keywords ++ fixed_width_names) i e ≡ key_text (get_or keys i d)
text_at i d e within = get_or-map key_text keys i d e within

key_is_reserved : (k : Key) (w : List ℕ) → key_text k ≡ w → IsReserved w
unfolding IsReserved
key_is_reserved k w is = (place k, place_within k, text_at (place k) k w (place_within k) ∙ ap key_text (stands k k) ∙ is)

no_key_none_reserved : (w : List ℕ) → ((k : Key) → key_text k ≡ w → ⊥) → IsReserved w → ⊥
unfolding IsReserved
no_key_none_reserved w none r = none (get_or keys r.0 key.Auto) (sym (text_at r.0 key.Auto w r.1) ∙ r.2)

finds : (k : Key) → key_of (key_text k) ≡ Some k
unfolding key_of
finds key.Auto = refl
finds key.Break = refl
finds key.Case = refl
finds key.Char = refl
finds key.Const = refl
finds key.Continue = refl
finds key.Default = refl
finds key.Do = refl
finds key.Double = refl
finds key.Else = refl
finds key.Enum = refl
finds key.Extern = refl
finds key.Float = refl
finds key.For = refl
finds key.Goto = refl
finds key.If = refl
finds key.Inline = refl
finds key.Int = refl
finds key.Long = refl
finds key.Register = refl
finds key.Restrict = refl
finds key.Return = refl
finds key.Short = refl
finds key.Signed = refl
finds key.Sizeof = refl
finds key.Static = refl
finds key.Struct = refl
finds key.Switch = refl
finds key.Typedef = refl
finds key.Union = refl
finds key.Unsigned = refl
finds key.Void = refl
finds key.Volatile = refl
finds key.While = refl
finds key.Bool = refl
finds key.Complex = refl
finds key.Imaginary = refl
finds key.Int8 = refl
finds key.Int16 = refl
finds key.Int32 = refl
finds key.Int64 = refl
finds key.Uint8 = refl
finds key.Uint16 = refl
finds key.Uint32 = refl
finds key.Uint64 = refl

-- no two words are spelled alike
pub one_key : (j k : Key) (w : List ℕ) → key_text j ≡ w → key_text k ≡ w → j ≡ k
one_key j k w a b = ap (λ o. unwrap_or o j) (sym (finds j) ∙ ap key_of (a ∙ sym b) ∙ finds k)

not_found : (p : Key → Bool) (ks : List Key) → All (λ k. p k ≡ false) ks → find p ks ≡ None
not_found p [] none = refl
not_found p (k ∷ ks) none = ap (λ b. cond b (Some k) (find p ks)) (All-head (λ k. p k ≡ false) k ks none) ∙ not_found p ks (All-tail (λ k. p k ≡ false) k ks none)

not_spelled : (w : List ℕ) → ((k : Key) → key_text k ≡ w → ⊥) → (k : Key) → bytes_eq (key_text k) w ≡ false
not_spelled w none k = ⊎_elim (λ yes. absurd (none k ((bytes_eq-Decides (key_text k) w).0 yes))) (λ no. no) (cases_Bool (bytes_eq (key_text k) w))

no_key : (w : List ℕ) → ((k : Key) → key_text k ≡ w → ⊥) → key_of w ≡ None
unfolding key_of
no_key w none = not_found (λ k. bytes_eq (key_text k) w) keys (λ i d below. not_spelled w none (get_or keys i d))

-- the word that is found is that of the definition
pub key_of_is : (r : Option Key) (w : List ℕ) → IfSome r (λ k. key_text k ≡ w) → (IsNone r → (k : Key) → key_text k ≡ w → ⊥) → r ≡ key_of w
key_of_is (Some k) w is none = sym (finds k) ∙ ap key_of is
key_of_is None w is none = sym (no_key w (none refl))

-- the word that is found is the only one of its spelling
pub exact_by : (r : Option Key) (w : List ℕ) → IfSome r (λ k. key_text k ≡ w) → (IsNone r → (k : Key) → key_text k ≡ w → ⊥)
    → (k : Key) → key_text k ≡ w → r ≡ Some k
exact_by (Some j) w is none k e = ap Some (one_key j k w is e)
exact_by None w is none k e = absurd (none refl k e)

-- some word is found exactly where the word is reserved
pub reserved_iff : (r : Option Key) (w : List ℕ) → IfSome r (λ k. key_text k ≡ w) → (IsNone r → (k : Key) → key_text k ≡ w → ⊥)
    → IsSome r ↔ IsReserved w
reserved_iff (Some k) w is none = (λ e. key_is_reserved k w is, λ e. refl)
reserved_iff None w is none = (λ e. absurd (false≢true e), λ r. absurd (no_key_none_reserved w (none refl) r))
