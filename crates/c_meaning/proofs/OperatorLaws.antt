-- The laws of single operators on patterns, put together.
use Rattle.std.proofs.Common.{◌≡◌}
use Rattle.std.specs.Prelude.{Bool, true, false}
use Rattle.el_base.specs.declared.ty.Ty.{Ty}
use Rattle.c_ast.specs.declared.tree.Unary.{Unary}
use Rattle.c_ast.specs.declared.tree.Unary.TheVariants.{Plus, Minus, Flip, Not}
use Rattle.c_ast.specs.declared.tree.Binary.{Binary}
use Rattle.c_ast.specs.declared.tree.Binary.TheVariants.{Mul, Div, Rem, Add, Sub, Lt, Gt, Le, Ge, Eq, Ne, And, Xor, Or}
use Rattle.c_ast.specs.declared.tree.Family.{Family}
use Rattle.c_ast.specs.declared.tree.Family.TheVariants.{Arithmetic, Shift, Bits, Comparison, Logical}
use Rattle.c_ast.specs.ResultTypes.{family, promoted}
use Rattle.c_meaning.specs.Patterns.{KeepsPatterns, KeepsPattern}

-- an operator that evaluates both operands, and is no shift
abbrev pub plain_in : Family → Bool
plain_in Arithmetic = true
plain_in Shift = false
plain_in Bits = true
plain_in Comparison = true
plain_in Logical = false

abbrev pub is_plain : Binary → Bool
is_plain op = plain_in (family op)

abbrev pub Two : Binary → Type 0
Two op = (t : Ty) → KeepsPatterns op (promoted t)

abbrev pub One : Unary → Type 0
One op = (t : Ty) → KeepsPattern op (promoted t)

pub plain_laws : Two Mul → Two Div → Two Rem → Two Add → Two Sub → Two Lt → Two Gt → Two Le → Two Ge → Two Eq → Two Ne → Two And → Two Xor → Two Or → (op : Binary) (t : Ty) → is_plain op ≡ true → KeepsPatterns op (promoted t)
plain_laws l_mul l_div l_rem l_add l_sub l_lt l_gt l_le l_ge l_eq l_ne l_and l_xor l_or Mul t e = l_mul t
plain_laws l_mul l_div l_rem l_add l_sub l_lt l_gt l_le l_ge l_eq l_ne l_and l_xor l_or Div t e = l_div t
plain_laws l_mul l_div l_rem l_add l_sub l_lt l_gt l_le l_ge l_eq l_ne l_and l_xor l_or Rem t e = l_rem t
plain_laws l_mul l_div l_rem l_add l_sub l_lt l_gt l_le l_ge l_eq l_ne l_and l_xor l_or Add t e = l_add t
plain_laws l_mul l_div l_rem l_add l_sub l_lt l_gt l_le l_ge l_eq l_ne l_and l_xor l_or Sub t e = l_sub t
plain_laws l_mul l_div l_rem l_add l_sub l_lt l_gt l_le l_ge l_eq l_ne l_and l_xor l_or Lt t e = l_lt t
plain_laws l_mul l_div l_rem l_add l_sub l_lt l_gt l_le l_ge l_eq l_ne l_and l_xor l_or Gt t e = l_gt t
plain_laws l_mul l_div l_rem l_add l_sub l_lt l_gt l_le l_ge l_eq l_ne l_and l_xor l_or Le t e = l_le t
plain_laws l_mul l_div l_rem l_add l_sub l_lt l_gt l_le l_ge l_eq l_ne l_and l_xor l_or Ge t e = l_ge t
plain_laws l_mul l_div l_rem l_add l_sub l_lt l_gt l_le l_ge l_eq l_ne l_and l_xor l_or Eq t e = l_eq t
plain_laws l_mul l_div l_rem l_add l_sub l_lt l_gt l_le l_ge l_eq l_ne l_and l_xor l_or Ne t e = l_ne t
plain_laws l_mul l_div l_rem l_add l_sub l_lt l_gt l_le l_ge l_eq l_ne l_and l_xor l_or And t e = l_and t
plain_laws l_mul l_div l_rem l_add l_sub l_lt l_gt l_le l_ge l_eq l_ne l_and l_xor l_or Xor t e = l_xor t
plain_laws l_mul l_div l_rem l_add l_sub l_lt l_gt l_le l_ge l_eq l_ne l_and l_xor l_or Or t e = l_or t
plain_laws l_mul l_div l_rem l_add l_sub l_lt l_gt l_le l_ge l_eq l_ne l_and l_xor l_or op t e = absurd (cc)

pub unary_laws : One Plus → One Minus → One Flip → One Not → (op : Unary) (t : Ty) → KeepsPattern op (promoted t)
unary_laws p m f n Plus t = p t
unary_laws p m f n Minus t = m t
unary_laws p m f n Flip t = f t
unary_laws p m f n Not t = n t
