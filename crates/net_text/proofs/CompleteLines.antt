-- No line feed stands in a line of a net.
use Rattle.std.proofs.Common.{ℕ, Bool, true, false, List, [], ◌∷◌, ◌++◌, map, codes, decimal, Option, Some, None, refl, arith, lit<}
use Rattle.std.specs.List.{All, join_with_byte}
use Rattle.el_base.specs.declared.ty.Ty.{Ty}
use Rattle.el_base.specs.declared.ty.Ty.TheVariants.{I8, U8, I16, U16, I32, U32, I64, U64}
use Rattle.el_base.specs.declared.ty.Array.{Array}
use Rattle.el_base.specs.declared.ty.Scalar.{Scalar}
use Rattle.el_base.specs.declared.operation.Op1.{Op1 as First}
use Rattle.el_base.specs.declared.operation.Op2.{Op2 as Second}
use Rattle.el_base.specs.declared.operation.Op1.TheVariants.{Neg32, Neg64, Not32, Not64, Zero32, Zero64, S8to16, S8to32, S8to64, S16to32, S16to64, S32to64, U8to16, U8to32, U8to64, U16to32, U16to64, U32to64, Cut16to8, Cut32to8, Cut32to16, Cut64to8, Cut64to16, Cut64to32}
use Rattle.el_base.specs.declared.operation.Op2.TheVariants.{Add32, Add64, Sub32, Sub64, Mul32, Mul64, And32, And64, Or32, Or64, Xor32, Xor64, Shl32, Shl64, Shru32, Shru64, Shrs32, Shrs64, Divu32, Divu64, Remu32, Remu64, Divs32, Divs64, Rems32, Rems64, Eq32, Eq64, Ne32, Ne64, Ltu32, Ltu64, Leu32, Leu64, Lts32, Lts64, Les32, Les64}
use Rattle.el_base.specs.Names.{ty_name, op1_name, op2_name}
use Rattle.net_types.specs.declared.net.Chan.{Chan}
use Rattle.net_types.specs.declared.net.Net.{Net}
use Rattle.net_types.specs.declared.net.Place.{Place}
use Rattle.net_types.specs.declared.net.Port.{Port}
use Rattle.net_types.specs.declared.net.Port.TheVariants.{Load, Store}
use Rattle.net_types.specs.declared.net.Unit.{Unit as Kind}
use Rattle.net_types.specs.declared.net.Unit.TheVariants.{Entry, Param, Const, Op1, Op2, Select, Fork, Mux, Cmerge, Branch, Sink, Read, Lsq, Exit}
use Rattle.net_text.specs.declared.version.Version.{Version}
use Rattle.net_text.specs.declared.version.Version.TheVariants.{One, Two}
use Rattle.el_base.specs.Limits.{IsNumbered}
use Rattle.net_text.specs.Fits.{PlaceFits, GroupsFit, ScalarFits, ArrayFits, UnitFits, ChanFits, NetFits}
use Rattle.net_text.specs.Pieces.{place_text, port_letter, ports_text, groups_text, mark_text, control_parts}
use Rattle.net_text.specs.Reads.{kernel_text, scalar_text, array_text, result_text, unit_text, queue_end, chan_text}
use Rattle.net_text.specs.Bodies.{Complete, first_text, texts}
use Rattle.net_text.proofs.Cuts.{decimal_lacks}
use Rattle.net_text.proofs.GroupTexts.{lacks-append, groups_lack}
use Rattle.net_text.proofs.Lists.{All_head, All_tail, All_single}
use Rattle.net_text.proofs.Texts.{identifier_complete, kernel_complete, first_complete, all-cons}

ty_complete : (t : Ty) → Complete (ty_name t)
ty_complete I8 = refl
ty_complete U8 = refl
ty_complete I16 = refl
ty_complete U16 = refl
ty_complete I32 = refl
ty_complete U32 = refl
ty_complete I64 = refl
ty_complete U64 = refl

op1_complete : (op : First) → Complete (op1_name op)
op1_complete Neg32 = refl
op1_complete Neg64 = refl
op1_complete Not32 = refl
op1_complete Not64 = refl
op1_complete Zero32 = refl
op1_complete Zero64 = refl
op1_complete S8to16 = refl
op1_complete S8to32 = refl
op1_complete S8to64 = refl
op1_complete S16to32 = refl
op1_complete S16to64 = refl
op1_complete S32to64 = refl
op1_complete U8to16 = refl
op1_complete U8to32 = refl
op1_complete U8to64 = refl
op1_complete U16to32 = refl
op1_complete U16to64 = refl
op1_complete U32to64 = refl
op1_complete Cut16to8 = refl
op1_complete Cut32to8 = refl
op1_complete Cut32to16 = refl
op1_complete Cut64to8 = refl
op1_complete Cut64to16 = refl
op1_complete Cut64to32 = refl

op2_complete : (op : Second) → Complete (op2_name op)
op2_complete Add32 = refl
op2_complete Add64 = refl
op2_complete Sub32 = refl
op2_complete Sub64 = refl
op2_complete Mul32 = refl
op2_complete Mul64 = refl
op2_complete And32 = refl
op2_complete And64 = refl
op2_complete Or32 = refl
op2_complete Or64 = refl
op2_complete Xor32 = refl
op2_complete Xor64 = refl
op2_complete Shl32 = refl
op2_complete Shl64 = refl
op2_complete Shru32 = refl
op2_complete Shru64 = refl
op2_complete Shrs32 = refl
op2_complete Shrs64 = refl
op2_complete Divu32 = refl
op2_complete Divu64 = refl
op2_complete Remu32 = refl
op2_complete Remu64 = refl
op2_complete Divs32 = refl
op2_complete Divs64 = refl
op2_complete Rems32 = refl
op2_complete Rems64 = refl
op2_complete Eq32 = refl
op2_complete Eq64 = refl
op2_complete Ne32 = refl
op2_complete Ne64 = refl
op2_complete Ltu32 = refl
op2_complete Ltu64 = refl
op2_complete Leu32 = refl
op2_complete Leu64 = refl
op2_complete Lts32 = refl
op2_complete Lts64 = refl
op2_complete Les32 = refl
op2_complete Les64 = refl

number : (n : ℕ) → IsNumbered n → Complete (decimal n)
number n f = decimal_lacks 10 n (lit< tt) (omega (arith, f))

two : (a b : List ℕ) → Complete a → Complete b → Complete (a ++ 32 ∷ b)
two a b f g = lacks-append 10 a (32 ∷ b) f g

numbers : (w n : ℕ) → IsNumbered w → IsNumbered n → Complete (decimal w ++ 32 ∷ decimal n)
numbers w n f g = two (decimal w) (decimal n) (number w f) (number n g)

letters : (ps : List Port) → Complete (map port_letter ps)
letters [] = refl
letters (Load ∷ ps) = letters ps
letters (Store ∷ ps) = letters ps

ports : (ps : List Port) → Complete (ports_text ps)
ports [] = refl
ports (p ∷ ps) = letters (p ∷ ps)

mark_complete : (m : Bool) → Complete (mark_text m)
mark_complete true = refl
mark_complete false = refl

end_complete : (ver : Version) (gs : List (List ℕ)) (m : Bool) → GroupsFit gs → Complete (queue_end ver (gs, m))
end_complete One gs m h = groups_lack 10 (lit< tt) gs h
end_complete Two gs m h = two (groups_text gs) (mark_text m) (groups_lack 10 (lit< tt) gs h) (mark_complete m)

unit_complete : (ver : Version) (u : Kind) → UnitFits u → Complete (unit_text ver u)
unit_complete ver Entry f = refl
unit_complete ver Exit f = refl
unit_complete ver (Param j) f = number j f
unit_complete ver (Select w) f = number w f
unit_complete ver (Cmerge n) f = number n f
unit_complete ver (Branch w) f = number w f
unit_complete ver (Sink w) f = number w f
unit_complete ver (Read a) f = number a f
unit_complete ver (Fork w n) f = numbers w n f.0 f.1
unit_complete ver (Mux w n) f = numbers w n f.0 f.1
unit_complete ver (Const w v) f = two (decimal w) (decimal v) (number w f.0) (decimal_lacks 10 v (lit< tt) f.1)
unit_complete ver (Op1 op) f = op1_complete op
unit_complete ver (Op2 op) f = op2_complete op
unit_complete ver (Lsq a d ps gs m) f =
    two (decimal a) (decimal d ++ 32 ∷ (ports_text ps ++ 32 ∷ queue_end ver (gs, m))) (number a f.array)
    (two (decimal d) (ports_text ps ++ 32 ∷ queue_end ver (gs, m)) (number d f.depth) (two (ports_text ps) (queue_end ver (gs, m)) (ports ps) (end_complete ver gs m f.groups)))

scalar_complete : (s : Scalar) → ScalarFits s → Complete (scalar_text s)
scalar_complete s f = two s.name (ty_name s.ty) (identifier_complete s.name f) (ty_complete s.ty)

array_complete : (a : Array) → ArrayFits a → Complete (array_text a)
array_complete a f = two a.name (ty_name a.ty ++ 32 ∷ decimal a.len) (identifier_complete a.name f.name) (two (ty_name a.ty) (decimal a.len) (ty_complete a.ty) (decimal_lacks 10 a.len (lit< tt) f.len))

result_complete : (t : Option Ty) → Complete (result_text t)
result_complete None = refl
result_complete (Some t) = ty_complete t

place : (p : Place) → PlaceFits p → Complete (place_text p)
place p f = lacks-append 10 (decimal p.unit) (46 ∷ decimal p.place) (number p.unit f.unit) (number p.place f.place)

delay : (d : ℕ) (ctl : Bool) → IsNumbered d → Complete (join_with_byte 32 (decimal d ∷ control_parts ctl))
delay d true f = two (decimal d) (codes "control") (number d f) refl
delay d false f = number d f

chan_complete : (c : Chan) → ChanFits c → Complete (chan_text c)
chan_complete c f =
    let last = join_with_byte 32 (decimal c.delay ∷ control_parts c.ctl) in
    let slots = decimal c.slots ++ 32 ∷ last in
    let width = decimal c.width ++ 32 ∷ slots in
    two (place_text c.from) (place_text c.to ++ 32 ∷ width) (place c.from f.from)
    (two (place_text c.to) width (place c.to f.to) (two (decimal c.width) slots (number c.width f.width) (two (decimal c.slots) last (number c.slots f.slots) (delay c.delay c.ctl f.delay))))

all_map : {X : Type 0} (Fits : X → Type 0) (f : X → List ℕ) → ((x : X) → Fits x → Complete (f x)) → (xs : List X) → All Fits xs → (rest : List (List ℕ)) → All Complete rest → All Complete (map f xs ++ rest)
all_map Fits f each [] h rest r = r
all_map Fits f each (x ∷ xs) h rest r = all-cons Complete (f x) (map f xs ++ rest) (each x (All_head Fits x xs h)) (all_map Fits f each xs (All_tail Fits x xs h) rest r)

-- the lines of a net that fits
pub texts_complete : (ver : Version) (net : Net) → NetFits net → All Complete (texts ver net)
texts_complete ver net fits =
    let e = codes "end" ∷ [] in
    let c = map chan_text net.chans ++ e in
    let u = map (unit_text ver) net.units ++ c in
    let r = result_text net.result ∷ u in
    let a = map array_text net.arrays ++ r in
    let s = map scalar_text net.scalars ++ a in
    all-cons Complete (first_text ver) (kernel_text net.name ∷ s) (first_complete ver) (all-cons Complete (kernel_text net.name) s (kernel_complete net.name fits.name)
    (all_map ScalarFits scalar_text scalar_complete net.scalars fits.scalars a (all_map ArrayFits array_text array_complete net.arrays fits.arrays r (all-cons Complete (result_text net.result) u (result_complete net.result)
    (all_map UnitFits (unit_text ver) (unit_complete ver) net.units fits.units c (all_map ChanFits chan_text chan_complete net.chans fits.chans e (All_single Complete (codes "end") refl)))))))
