-- Each word names one operation, which stands in the table of all.
use Rattle.std.proofs.Common.{◌≡◌, ◌≢◌, ℕ, ◌+◌, ◌<◌, Bool, true, false, cond, List, [], ◌∷◌, length, get_or, refl, sym, ap, ◌∙◌, ⊎_elim, lit<, arith}
use Rattle.std.proofs.lemmas.Bool.{cases_lt}
use Rattle.std.proofs.lemmas.List.{get_or_default}
use Rattle.std.proofs.lemmas.Slice.Eq.{bytes_eq-Decides}
use Rattle.std.specs.Str.{bytes_eq}
use Rattle.el_base.specs.declared.operation.TheConstants.{OP1S, OP2S}
use Rattle.el_base.specs.declared.operation.Op1.{Op1}
use Rattle.el_base.specs.declared.operation.Op2.{Op2}
use Rattle.el_base.specs.declared.operation.Op1.TheVariants.{Neg32, Neg64, Not32, Not64, Zero32, Zero64, S8to16, S8to32, S8to64, S16to32, S16to64, S32to64, U8to16, U8to32, U8to64, U16to32, U16to64, U32to64, Cut16to8, Cut32to8, Cut32to16, Cut64to8, Cut64to16, Cut64to32}
use Rattle.el_base.specs.declared.operation.Op2.TheVariants.{Add32, Add64, Sub32, Sub64, Mul32, Mul64, And32, And64, Or32, Or64, Xor32, Xor64, Shl32, Shl64, Shru32, Shru64, Shrs32, Shrs64, Divu32, Divu64, Remu32, Remu64, Divs32, Divs64, Rems32, Rems64, Eq32, Eq64, Ne32, Ne64, Ltu32, Ltu64, Leu32, Leu64, Lts32, Lts64, Les32, Les64}
use Rattle.el_base.specs.Names.{op1_name, op2_name}

-- what a table's first places do not name, and the next one does not either
pub none_more : {X : Type 0} (name : X → List ℕ) (bytes : List ℕ) (xs : List X) (i : ℕ) (a : X) (s : List ℕ) (t : Bool)
    → i < length xs → ((k : ℕ) (d : X) → k < i → name (get_or xs k d) ≢ bytes) → t ≡ false → t ≡ bytes_eq s bytes → s ≡ name (get_or xs i a)
    → (k : ℕ) (d : X) → k < i + 1 → name (get_or xs k d) ≢ bytes
none_more name bytes xs i a s t inside before fails tests named k d below e =
    ⊎_elim (λ low. before k d low e)
    (λ high.
    let here : k ≡ i = omega arith in
    let same : s ≡ bytes = named ∙ ap name (get_or_default xs i a d inside) ∙ ap (λ j. name (get_or xs j d)) (sym here) ∙ e in
    let is : bytes_eq s bytes ≡ true = (bytes_eq-Decides s bytes).1 same in
    cc)
    (cases_lt k i)

-- where the words of a table's item and of another agree, and words are injective, they are one
pub same_named : {X : Type 0} (name : X → List ℕ) (injective : (x y : X) → name x ≡ name y → x ≡ y) (a b : X) (bytes s : List ℕ) (t : Bool)
    → t ≡ true → t ≡ bytes_eq s bytes → s ≡ name a → name b ≡ bytes → a ≡ b
same_named name injective a b bytes s t passes tests named e =
    let is : bytes_eq s bytes ≡ true = sym tests ∙ passes in
    injective a b (sym named ∙ (bytes_eq-Decides s bytes).0 is ∙ sym e)

-- the first operation of that word, or the given one
first_op1 : List ℕ → List Op1 → Op1 → Op1
first_op1 bs [] d = d
first_op1 bs (x ∷ xs) d = cond (bytes_eq (op1_name x) bs) x (first_op1 bs xs d)

first_op1_is : (op : Op1) → first_op1 (op1_name op) OP1S Neg32 ≡ op
unfolding first_op1
first_op1_is Neg32 = refl
first_op1_is Neg64 = refl
first_op1_is Not32 = refl
first_op1_is Not64 = refl
first_op1_is Zero32 = refl
first_op1_is Zero64 = refl
first_op1_is S8to16 = refl
first_op1_is S8to32 = refl
first_op1_is S8to64 = refl
first_op1_is S16to32 = refl
first_op1_is S16to64 = refl
first_op1_is S32to64 = refl
first_op1_is U8to16 = refl
first_op1_is U8to32 = refl
first_op1_is U8to64 = refl
first_op1_is U16to32 = refl
first_op1_is U16to64 = refl
first_op1_is U32to64 = refl
first_op1_is Cut16to8 = refl
first_op1_is Cut32to8 = refl
first_op1_is Cut32to16 = refl
first_op1_is Cut64to8 = refl
first_op1_is Cut64to16 = refl
first_op1_is Cut64to32 = refl

pub op1_name_injective : (x y : Op1) → op1_name x ≡ op1_name y → x ≡ y
op1_name_injective x y e = sym (first_op1_is x) ∙ ap (λ bs. first_op1 bs OP1S Neg32) e ∙ first_op1_is y

-- where each stands
pub op1_place : (op : Op1) → (k : ℕ) × (k < length OP1S) × ((d : Op1) → get_or OP1S k d ≡ op)
op1_place Neg32 = (0, lit< tt, λ d. refl)
op1_place Neg64 = (1, lit< tt, λ d. refl)
op1_place Not32 = (2, lit< tt, λ d. refl)
op1_place Not64 = (3, lit< tt, λ d. refl)
op1_place Zero32 = (4, lit< tt, λ d. refl)
op1_place Zero64 = (5, lit< tt, λ d. refl)
op1_place S8to16 = (6, lit< tt, λ d. refl)
op1_place S8to32 = (7, lit< tt, λ d. refl)
op1_place S8to64 = (8, lit< tt, λ d. refl)
op1_place S16to32 = (9, lit< tt, λ d. refl)
op1_place S16to64 = (10, lit< tt, λ d. refl)
op1_place S32to64 = (11, lit< tt, λ d. refl)
op1_place U8to16 = (12, lit< tt, λ d. refl)
op1_place U8to32 = (13, lit< tt, λ d. refl)
op1_place U8to64 = (14, lit< tt, λ d. refl)
op1_place U16to32 = (15, lit< tt, λ d. refl)
op1_place U16to64 = (16, lit< tt, λ d. refl)
op1_place U32to64 = (17, lit< tt, λ d. refl)
op1_place Cut16to8 = (18, lit< tt, λ d. refl)
op1_place Cut32to8 = (19, lit< tt, λ d. refl)
op1_place Cut32to16 = (20, lit< tt, λ d. refl)
op1_place Cut64to8 = (21, lit< tt, λ d. refl)
op1_place Cut64to16 = (22, lit< tt, λ d. refl)
op1_place Cut64to32 = (23, lit< tt, λ d. refl)

-- the first operation of that word, or the given one
first_op2 : List ℕ → List Op2 → Op2 → Op2
first_op2 bs [] d = d
first_op2 bs (x ∷ xs) d = cond (bytes_eq (op2_name x) bs) x (first_op2 bs xs d)

first_op2_is : (op : Op2) → first_op2 (op2_name op) OP2S Add32 ≡ op
unfolding first_op2
first_op2_is Add32 = refl
first_op2_is Add64 = refl
first_op2_is Sub32 = refl
first_op2_is Sub64 = refl
first_op2_is Mul32 = refl
first_op2_is Mul64 = refl
first_op2_is And32 = refl
first_op2_is And64 = refl
first_op2_is Or32 = refl
first_op2_is Or64 = refl
first_op2_is Xor32 = refl
first_op2_is Xor64 = refl
first_op2_is Shl32 = refl
first_op2_is Shl64 = refl
first_op2_is Shru32 = refl
first_op2_is Shru64 = refl
first_op2_is Shrs32 = refl
first_op2_is Shrs64 = refl
first_op2_is Divu32 = refl
first_op2_is Divu64 = refl
first_op2_is Remu32 = refl
first_op2_is Remu64 = refl
first_op2_is Divs32 = refl
first_op2_is Divs64 = refl
first_op2_is Rems32 = refl
first_op2_is Rems64 = refl
first_op2_is Eq32 = refl
first_op2_is Eq64 = refl
first_op2_is Ne32 = refl
first_op2_is Ne64 = refl
first_op2_is Ltu32 = refl
first_op2_is Ltu64 = refl
first_op2_is Leu32 = refl
first_op2_is Leu64 = refl
first_op2_is Lts32 = refl
first_op2_is Lts64 = refl
first_op2_is Les32 = refl
first_op2_is Les64 = refl

pub op2_name_injective : (x y : Op2) → op2_name x ≡ op2_name y → x ≡ y
op2_name_injective x y e = sym (first_op2_is x) ∙ ap (λ bs. first_op2 bs OP2S Add32) e ∙ first_op2_is y

-- where each stands
pub op2_place : (op : Op2) → (k : ℕ) × (k < length OP2S) × ((d : Op2) → get_or OP2S k d ≡ op)
op2_place Add32 = (0, lit< tt, λ d. refl)
op2_place Add64 = (1, lit< tt, λ d. refl)
op2_place Sub32 = (2, lit< tt, λ d. refl)
op2_place Sub64 = (3, lit< tt, λ d. refl)
op2_place Mul32 = (4, lit< tt, λ d. refl)
op2_place Mul64 = (5, lit< tt, λ d. refl)
op2_place And32 = (6, lit< tt, λ d. refl)
op2_place And64 = (7, lit< tt, λ d. refl)
op2_place Or32 = (8, lit< tt, λ d. refl)
op2_place Or64 = (9, lit< tt, λ d. refl)
op2_place Xor32 = (10, lit< tt, λ d. refl)
op2_place Xor64 = (11, lit< tt, λ d. refl)
op2_place Shl32 = (12, lit< tt, λ d. refl)
op2_place Shl64 = (13, lit< tt, λ d. refl)
op2_place Shru32 = (14, lit< tt, λ d. refl)
op2_place Shru64 = (15, lit< tt, λ d. refl)
op2_place Shrs32 = (16, lit< tt, λ d. refl)
op2_place Shrs64 = (17, lit< tt, λ d. refl)
op2_place Divu32 = (18, lit< tt, λ d. refl)
op2_place Divu64 = (19, lit< tt, λ d. refl)
op2_place Remu32 = (20, lit< tt, λ d. refl)
op2_place Remu64 = (21, lit< tt, λ d. refl)
op2_place Divs32 = (22, lit< tt, λ d. refl)
op2_place Divs64 = (23, lit< tt, λ d. refl)
op2_place Rems32 = (24, lit< tt, λ d. refl)
op2_place Rems64 = (25, lit< tt, λ d. refl)
op2_place Eq32 = (26, lit< tt, λ d. refl)
op2_place Eq64 = (27, lit< tt, λ d. refl)
op2_place Ne32 = (28, lit< tt, λ d. refl)
op2_place Ne64 = (29, lit< tt, λ d. refl)
op2_place Ltu32 = (30, lit< tt, λ d. refl)
op2_place Ltu64 = (31, lit< tt, λ d. refl)
op2_place Leu32 = (32, lit< tt, λ d. refl)
op2_place Leu64 = (33, lit< tt, λ d. refl)
op2_place Lts32 = (34, lit< tt, λ d. refl)
op2_place Lts64 = (35, lit< tt, λ d. refl)
op2_place Les32 = (36, lit< tt, λ d. refl)
op2_place Les64 = (37, lit< tt, λ d. refl)
