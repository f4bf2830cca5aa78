-- Two values of one text are one.
use Rattle.std.proofs.Common.{◌≡◌, ◌≢◌, ℕ, ◌+◌, ◌*◌, ◌==◌, Bool, true, false, List, [], ◌∷◌, ◌++◌, map, drop, length, codes, decimal, get_or, Option, Some, None, refl, sym, ap, ◌∙◌, arith, lit<}
use Rattle.std.specs.List.{All, join_with_byte, slice_split}
use Rattle.std.proofs.lemmas.Bool.{false≢true}
use Rattle.std.proofs.lemmas.Fmt.{decimal_injective}
use Rattle.el_base.specs.declared.ty.Ty.{Ty}
use Rattle.el_base.specs.declared.ty.Ty.TheVariants.{I8, U8, I16, U16, I32, U32, I64, U64}
use Rattle.el_base.specs.declared.ty.Array.{Array}
use Rattle.el_base.specs.declared.ty.Scalar.{Scalar}
use Rattle.el_base.specs.Names.{ty_name, op1_name, op2_name}
use Rattle.el_base.proofs.NameLemmas.{op1_name_injective, op2_name_injective}
use Rattle.net_types.specs.declared.net.Chan.{Chan}
use Rattle.net_types.specs.declared.net.Net.{Net}
use Rattle.net_types.specs.declared.net.Place.{Place}
use Rattle.net_types.specs.declared.net.Port.{Port}
use Rattle.net_types.specs.declared.net.Port.TheVariants.{Load, Store}
use Rattle.net_types.specs.declared.net.Unit.{Unit as Kind}
use Rattle.net_types.specs.declared.net.Unit.TheVariants.{Entry, Param, Const, Op1, Op2, Select, Fork, Mux, Cmerge, Branch, Sink, Read, Lsq, Exit}
use Rattle.net_text.specs.declared.version.Version.{Version}
use Rattle.net_text.specs.declared.version.Version.TheVariants.{One, Two}
use Rattle.el_base.specs.Limits.{IsNumbered}
use Rattle.net_text.specs.Fits.{PlaceFits, GroupFits, GroupsFit, ScalarFits, ArrayFits, ChanFits, QueueFits, MarkFits, WritesUnit, Writes}
use Rattle.net_text.specs.Pieces.{place_text, port_letter, ports_text, group_text, groups_text, mark_text}
use Rattle.net_text.specs.Reads.{lacks, scalar_text, array_text, result_text, unit_text, kind_text, QueueEndFits, queue_end, chan_text, delay_text}
use Rattle.net_text.specs.Bodies.{texts}
use Rattle.net_text.proofs.Cuts.{cut_unique, cut_present, decimal_lacks, decimal_lacks_above}
use Rattle.net_text.proofs.GroupTexts.{lacks-append, numbers_lack, ports_lack, group_lacks, groups_lack}
use Rattle.net_text.proofs.LineTexts.{name_lacks, ty_lacks, place_lacks, from_to, from_width, from_slots}
use Rattle.net_text.proofs.Lists.{All_head, All_tail, split_map, written_units}
use Rattle.net_text.proofs.Paths.{result_letter}
use Rattle.net_text.proofs.ReadLemmas.{after_word}
use Rattle.net_text.proofs.UnitKinds.{unit_kind, queue_text}

number : (m n : ℕ) → IsNumbered m → IsNumbered n → decimal m ≡ decimal n → m ≡ n
number m n f g e = decimal_injective m n (omega (arith, f)) (omega (arith, g)) e

no_space : (n : ℕ) → IsNumbered n → lacks 32 (decimal n) ≡ true
no_space n f = decimal_lacks 32 n (lit< tt) (omega (arith, f))

map_one : {X : Type 0} (Fits : X → Type 0) (f : X → List ℕ) → ((x y : X) → Fits x → Fits y → f x ≡ f y → x ≡ y) → (xs ys : List X) → All Fits xs → All Fits ys → map f xs ≡ map f ys → xs ≡ ys
map_one Fits f one [] [] h k e = refl
map_one Fits f one [] (y ∷ ys) h k e = absurd (omega (arith, ap length e))
map_one Fits f one (x ∷ xs) [] h k e = absurd (omega (arith, ap length e))
map_one Fits f one (x ∷ xs) (y ∷ ys) h k e =
    ap (λ z. z ∷ xs) (one x y (All_head Fits x xs h) (All_head Fits y ys k) (ap (λ l. get_or l 0 []) e)) ∙ ap (λ l. y ∷ l) (map_one Fits f one xs ys (All_tail Fits x xs h) (All_tail Fits y ys k) (ap (drop 1) e))

mark : List ℕ → ℕ
mark l = get_or l 0 0 + 256 * get_or l 1 0 + 65536 * get_or l 2 0

ty_mark : List ℕ → ℕ
ty_mark l = get_or l 0 0 + 256 * get_or l 1 0

ty_one : (x y : Ty) → ty_name x ≡ ty_name y → x ≡ y
unfolding ty_mark
ty_one I8 I8 e = refl
ty_one U8 U8 e = refl
ty_one I16 I16 e = refl
ty_one U16 U16 e = refl
ty_one I32 I32 e = refl
ty_one U32 U32 e = refl
ty_one I64 I64 e = refl
ty_one U64 U64 e = refl
ty_one x y e = absurd (omega (arith, ap ty_mark e))

letters_one : (ps qs : List Port) → map port_letter ps ≡ map port_letter qs → ps ≡ qs
letters_one [] [] e = refl
letters_one [] (q ∷ qs) e = absurd (omega (arith, ap length e))
letters_one (p ∷ ps) [] e = absurd (omega (arith, ap length e))
letters_one (Load ∷ ps) (Load ∷ qs) e = ap (λ l. Load ∷ l) (letters_one ps qs (ap (drop 1) e))
letters_one (Store ∷ ps) (Store ∷ qs) e = ap (λ l. Store ∷ l) (letters_one ps qs (ap (drop 1) e))
letters_one (Load ∷ ps) (Store ∷ qs) e = absurd (omega (arith, ap (λ l. get_or l 0 0) e))
letters_one (Store ∷ ps) (Load ∷ qs) e = absurd (omega (arith, ap (λ l. get_or l 0 0) e))

ports_one : (ps qs : List Port) → ports_text ps ≡ ports_text qs → ps ≡ qs
ports_one [] [] e = refl
ports_one [] (Load ∷ qs) e = absurd (omega (arith, ap (λ l. get_or l 0 0) e))
ports_one [] (Store ∷ qs) e = absurd (omega (arith, ap (λ l. get_or l 0 0) e))
ports_one (Load ∷ ps) [] e = absurd (omega (arith, ap (λ l. get_or l 0 0) e))
ports_one (Store ∷ ps) [] e = absurd (omega (arith, ap (λ l. get_or l 0 0) e))
ports_one (p ∷ ps) (q ∷ qs) e = letters_one (p ∷ ps) (q ∷ qs) e

no_dash : (n : ℕ) (ns : List ℕ) → GroupFits (n ∷ ns) → codes "-" ≡ group_text (n ∷ ns) → ⊥
no_dash n ns h e = false≢true (ap (lacks 45) e ∙ numbers_lack 45 (λ k f. decimal_lacks 45 k (lit< tt) (omega (arith, f))) (λ z. omega arith) n ns h)

numbers_split : (n : ℕ) (ns : List ℕ) → GroupFits (n ∷ ns) → slice_split (λ b. b == 44) (group_text (n ∷ ns)) ≡ map decimal (n ∷ ns)
numbers_split n ns h = split_map IsNumbered 44 decimal (λ k f. decimal_lacks 44 k (lit< tt) (omega (arith, f))) n ns h

group_one : (g h : List ℕ) → GroupFits g → GroupFits h → group_text g ≡ group_text h → g ≡ h
group_one [] [] f k e = refl
group_one [] (n ∷ ns) f k e = absurd (no_dash n ns k e)
group_one (n ∷ ns) [] f k e = absurd (no_dash n ns f (sym e))
group_one (n ∷ ns) (m ∷ ms) f k e = map_one IsNumbered decimal number (n ∷ ns) (m ∷ ms) f k (sym (numbers_split n ns f) ∙ ap (slice_split (λ b. b == 44)) e ∙ numbers_split m ms k)

no_word : (g : List ℕ) → GroupFits g → lacks 110 (group_text g) ≡ true
no_word [] h = refl
no_word (n ∷ ns) h = numbers_lack 110 (λ k f. decimal_lacks_above 110 k (lit< tt) (omega (arith, f))) (λ e. omega arith) n ns h

no_words : (g : List ℕ) (gs : List (List ℕ)) → GroupsFit (g ∷ gs) → lacks 110 (join_with_byte 59 (map group_text (g ∷ gs))) ≡ true
no_words g [] h = no_word g (All_head GroupFits g [] h)
no_words g (x ∷ xs) h = lacks-append 110 (group_text g) (59 ∷ join_with_byte 59 (map group_text (x ∷ xs))) (no_word g (All_head GroupFits g (x ∷ xs) h)) (no_words x xs (All_tail GroupFits g (x ∷ xs) h))

no_none : (g : List ℕ) (gs : List (List ℕ)) → GroupsFit (g ∷ gs) → codes "none" ≡ groups_text (g ∷ gs) → ⊥
no_none g gs h e = false≢true (ap (lacks 110) e ∙ no_words g gs h)

groups_split : (g : List ℕ) (gs : List (List ℕ)) → GroupsFit (g ∷ gs) → slice_split (λ b. b == 59) (groups_text (g ∷ gs)) ≡ map group_text (g ∷ gs)
groups_split g gs h = split_map GroupFits 59 group_text group_lacks g gs h

groups_one : (gs hs : List (List ℕ)) → GroupsFit gs → GroupsFit hs → groups_text gs ≡ groups_text hs → gs ≡ hs
groups_one [] [] f k e = refl
groups_one [] (h ∷ hs) f k e = absurd (no_none h hs k e)
groups_one (g ∷ gs) [] f k e = absurd (no_none g gs f (sym e))
groups_one (g ∷ gs) (h ∷ hs) f k e = map_one GroupFits group_text group_one (g ∷ gs) (h ∷ hs) f k (sym (groups_split g gs f) ∙ ap (slice_split (λ b. b == 59)) e ∙ groups_split h hs k)

numbers : (w n x m : ℕ) → IsNumbered w → IsNumbered n → IsNumbered x → IsNumbered m → decimal w ++ 32 ∷ decimal n ≡ decimal x ++ 32 ∷ decimal m → (w ≡ x) × (n ≡ m)
numbers w n x m fw fn fx fm e =
    let cut = cut_unique 32 (decimal w) (decimal n) (decimal x) (decimal m) (no_space w fw) (no_space x fx) e in
    (number w x fw fx cut.0, number n m fn fm cut.1)

mark_one : (m n : Bool) → mark_text m ≡ mark_text n → m ≡ n
mark_one true true e = refl
mark_one false false e = refl
mark_one true false e = absurd (omega (arith, ap (λ l. get_or l 0 0) e))
mark_one false true e = absurd (omega (arith, ap (λ l. get_or l 0 0) e))

end_one : (ver : Version) (gs hs : List (List ℕ)) (m n : Bool) → QueueEndFits ver (gs, m) → QueueEndFits ver (hs, n) → queue_end ver (gs, m) ≡ queue_end ver (hs, n) → (gs ≡ hs) × (m ≡ n)
end_one One gs hs m n f g e = (groups_one gs hs f.0 g.0 e, f.1 ∙ sym g.1)
end_one Two gs hs m n f g e =
    let cut = cut_unique 32 (groups_text gs) (mark_text m) (groups_text hs) (mark_text n) (groups_lack 32 (lit< tt) gs f.0) (groups_lack 32 (lit< tt) hs g.0) e in
    (groups_one gs hs f.0 g.0 cut.0, mark_one m n cut.1)

queue_one : (ver : Version) (a d b c : ℕ) (ps qs : List Port) (gs hs : List (List ℕ)) (m n : Bool) → QueueFits a d gs × MarkFits ver m → QueueFits b c hs × MarkFits ver n
    → queue_text ver a d ps gs m ≡ queue_text ver b c qs hs n → Lsq a d ps gs m ≡ Lsq b c qs hs n
queue_one ver a d b c ps qs gs hs m n f g e =
    let one = cut_unique 32 (decimal a) (decimal d ++ 32 ∷ (ports_text ps ++ 32 ∷ queue_end ver (gs, m))) (decimal b) (decimal c ++ 32 ∷ (ports_text qs ++ 32 ∷ queue_end ver (hs, n))) (no_space a f.0.array) (no_space b g.0.array) e in
    let two = cut_unique 32 (decimal d) (ports_text ps ++ 32 ∷ queue_end ver (gs, m)) (decimal c) (ports_text qs ++ 32 ∷ queue_end ver (hs, n)) (no_space d f.0.depth) (no_space c g.0.depth) one.1 in
    let three = cut_unique 32 (ports_text ps) (queue_end ver (gs, m)) (ports_text qs) (queue_end ver (hs, n)) (ports_lack ps) (ports_lack qs) two.1 in
    let four = end_one ver gs hs m n (f.0.groups, f.1) (g.0.groups, g.1) three.1 in
    ap (λ x. Lsq x d ps gs m) (number a b f.0.array g.0.array one.0) ∙ ap (λ x. Lsq b x ps gs m) (number d c f.0.depth g.0.depth two.0) ∙ ap (λ x. Lsq b c x gs m) (ports_one ps qs three.0)
    ∙ ap (λ x. Lsq b c qs x m) four.0 ∙ ap (λ x. Lsq b c qs hs x) four.1

kind_one : (ver : Version) (u v : Kind) → WritesUnit ver u → WritesUnit ver v → kind_text ver u ≡ kind_text ver v → u ≡ v
unfolding mark
kind_one ver Entry Entry f g e = refl
kind_one ver Exit Exit f g e = refl
kind_one ver (Param m) (Param n) f g e = ap Param (number m n f.0 g.0 (after_word (codes "param ") (decimal m) (decimal n) e))
kind_one ver (Select m) (Select n) f g e = ap Select (number m n f.0 g.0 (after_word (codes "select ") (decimal m) (decimal n) e))
kind_one ver (Cmerge m) (Cmerge n) f g e = ap Cmerge (number m n f.0 g.0 (after_word (codes "cmerge ") (decimal m) (decimal n) e))
kind_one ver (Branch m) (Branch n) f g e = ap Branch (number m n f.0 g.0 (after_word (codes "branch ") (decimal m) (decimal n) e))
kind_one ver (Sink m) (Sink n) f g e = ap Sink (number m n f.0 g.0 (after_word (codes "sink ") (decimal m) (decimal n) e))
kind_one ver (Read m) (Read n) f g e = ap Read (number m n f.0 g.0 (after_word (codes "read ") (decimal m) (decimal n) e))
kind_one ver (Fork w n) (Fork x m) f g e = let p = numbers w n x m f.0.0 f.0.1 g.0.0 g.0.1 (after_word (codes "fork ") (decimal w ++ 32 ∷ decimal n) (decimal x ++ 32 ∷ decimal m) e) in ap (λ z. Fork z n) p.0 ∙ ap (λ z. Fork x z) p.1
kind_one ver (Mux w n) (Mux x m) f g e = let p = numbers w n x m f.0.0 f.0.1 g.0.0 g.0.1 (after_word (codes "mux ") (decimal w ++ 32 ∷ decimal n) (decimal x ++ 32 ∷ decimal m) e) in ap (λ z. Mux z n) p.0 ∙ ap (λ z. Mux x z) p.1
kind_one ver (Const w n) (Const x m) f g e =
    let cut = cut_unique 32 (decimal w) (decimal n) (decimal x) (decimal m) (no_space w f.0.0) (no_space x g.0.0) (after_word (codes "const ") (decimal w ++ 32 ∷ decimal n) (decimal x ++ 32 ∷ decimal m) e) in
    ap (λ z. Const z n) (number w x f.0.0 g.0.0 cut.0) ∙ ap (λ z. Const x z) (decimal_injective n m f.0.1 g.0.1 cut.1)
kind_one ver (Op1 m) (Op1 n) f g e = ap Op1 (op1_name_injective m n (after_word (codes "op1 ") (op1_name m) (op1_name n) e))
kind_one ver (Op2 m) (Op2 n) f g e = ap Op2 (op2_name_injective m n (after_word (codes "op2 ") (op2_name m) (op2_name n) e))
kind_one ver (Lsq a d ps gs m) (Lsq b c qs hs n) f g e = queue_one ver a d b c ps qs gs hs m n f g (after_word (codes "lsq ") (queue_text ver a d ps gs m) (queue_text ver b c qs hs n) e)
kind_one ver u v f g e = absurd (omega (arith, ap mark e))

unit_one : (ver : Version) (u v : Kind) → WritesUnit ver u → WritesUnit ver v → unit_text ver u ≡ unit_text ver v → u ≡ v
unit_one ver u v f g e = kind_one ver u v f g (after_word (codes "unit ") (kind_text ver u) (kind_text ver v) (sym (unit_kind ver u) ∙ e ∙ unit_kind ver v))

scalar_one : (s t : Scalar) → ScalarFits s → ScalarFits t → scalar_text s ≡ scalar_text t → s ≡ t
scalar_one s t f g e =
    let cut = cut_unique 32 s.name (ty_name s.ty) t.name (ty_name t.ty) (name_lacks s.name f) (name_lacks t.name g) (after_word (codes "scalar ") (s.name ++ 32 ∷ ty_name s.ty) (t.name ++ 32 ∷ ty_name t.ty) e) in
    let one : s ≡ record s { name = t.name } = ap (λ n. record s { name = n }) cut.0 in
    one ∙ ap (λ y. record t { ty = y }) (ty_one s.ty t.ty cut.1)

array_one : (s t : Array) → ArrayFits s → ArrayFits t → array_text s ≡ array_text t → s ≡ t
array_one s t f g e =
    let cut = cut_unique 32 s.name (ty_name s.ty ++ 32 ∷ decimal s.len) t.name (ty_name t.ty ++ 32 ∷ decimal t.len) (name_lacks s.name f.name) (name_lacks t.name g.name)
    (after_word (codes "array ") (s.name ++ 32 ∷ (ty_name s.ty ++ 32 ∷ decimal s.len)) (t.name ++ 32 ∷ (ty_name t.ty ++ 32 ∷ decimal t.len)) e) in
    let more = cut_unique 32 (ty_name s.ty) (decimal s.len) (ty_name t.ty) (decimal t.len) (ty_lacks s.ty) (ty_lacks t.ty) cut.1 in
    let one : s ≡ record s { name = t.name } = ap (λ n. record s { name = n }) cut.0 in
    one ∙ ap (λ y. record t { ty = y; len = s.len }) (ty_one s.ty t.ty more.0) ∙ ap (λ n. record t { len = n }) (decimal_injective s.len t.len f.len g.len more.1)

ty_none : (t : Ty) → codes "none" ≡ ty_name t → ⊥
unfolding ty_mark
ty_none I8 e = omega (arith, ap ty_mark e)
ty_none U8 e = omega (arith, ap ty_mark e)
ty_none I16 e = omega (arith, ap ty_mark e)
ty_none U16 e = omega (arith, ap ty_mark e)
ty_none I32 e = omega (arith, ap ty_mark e)
ty_none U32 e = omega (arith, ap ty_mark e)
ty_none I64 e = omega (arith, ap ty_mark e)
ty_none U64 e = omega (arith, ap ty_mark e)

result_one : (s t : Option Ty) → result_text s ≡ result_text t → s ≡ t
result_one None None e = refl
result_one None (Some t) e = absurd (ty_none t (after_word (codes "result ") (codes "none") (ty_name t) e))
result_one (Some s) None e = absurd (ty_none s (after_word (codes "result ") (codes "none") (ty_name s) (sym e)))
result_one (Some s) (Some t) e = ap Some (ty_one s t (after_word (codes "result ") (ty_name s) (ty_name t) e))

place_one : (p q : Place) → PlaceFits p → PlaceFits q → place_text p ≡ place_text q → p ≡ q
place_one p q f g e =
    let cut = cut_unique 46 (decimal p.unit) (decimal p.place) (decimal q.unit) (decimal q.place) (decimal_lacks 46 p.unit (lit< tt) (omega (arith, f.unit))) (decimal_lacks 46 q.unit (lit< tt) (omega (arith, g.unit))) e in
    let one : p ≡ record p { unit = q.unit } = ap (λ n. record p { unit = n }) (number p.unit q.unit f.unit g.unit cut.0) in
    one ∙ ap (λ n. record q { place = n }) (number p.place q.place f.place g.place cut.1)

delay_one : (d : ℕ) (b : Bool) (n : ℕ) (c : Bool) → IsNumbered d → IsNumbered n → delay_text (d, b) ≡ delay_text (n, c) → (d ≡ n) × (b ≡ c)
delay_one d true n true f g e = (number d n f g (cut_unique 32 (decimal d) (codes "control") (decimal n) (codes "control") (no_space d f) (no_space n g) e).0, refl)
delay_one d false n false f g e = (number d n f g e, refl)
delay_one d true n false f g e = absurd (cut_present 32 (decimal d) (codes "control") (ap (lacks 32) e ∙ no_space n g))
delay_one d false n true f g e = absurd (cut_present 32 (decimal n) (codes "control") (ap (lacks 32) (sym e) ∙ no_space d f))

chan_one : (c d : Chan) → ChanFits c → ChanFits d → chan_text c ≡ chan_text d → c ≡ d
chan_one c d f g e =
    let s1 = cut_unique 32 (place_text c.from) (from_to c) (place_text d.from) (from_to d) (place_lacks c.from f.from) (place_lacks d.from g.from) (after_word (codes "chan ") (place_text c.from ++ 32 ∷ from_to c) (place_text d.from ++ 32 ∷ from_to d) e) in
    let s2 = cut_unique 32 (place_text c.to) (from_width c) (place_text d.to) (from_width d) (place_lacks c.to f.to) (place_lacks d.to g.to) s1.1 in
    let s3 = cut_unique 32 (decimal c.width) (from_slots c) (decimal d.width) (from_slots d) (no_space c.width f.width) (no_space d.width g.width) s2.1 in
    let s4 = cut_unique 32 (decimal c.slots) (delay_text (c.delay, c.ctl)) (decimal d.slots) (delay_text (d.delay, d.ctl)) (no_space c.slots f.slots) (no_space d.slots g.slots) s3.1 in
    let s5 = delay_one c.delay c.ctl d.delay d.ctl f.delay g.delay s4.1 in
    let e1 : c ≡ record c { from = d.from } = ap (λ x. record c { from = x }) (place_one c.from d.from f.from g.from s1.0) in
    let e2 : record c { from = d.from } ≡ record c { from = d.from; to = d.to } = ap (λ x. record c { from = d.from; to = x }) (place_one c.to d.to f.to g.to s2.0) in
    e1 ∙ e2 ∙ ap (λ x. record d { width = x; slots = c.slots; delay = c.delay; ctl = c.ctl }) (number c.width d.width f.width g.width s3.0)
    ∙ ap (λ x. record d { slots = x; delay = c.delay; ctl = c.ctl }) (number c.slots d.slots f.slots g.slots s4.0)
    ∙ ap (λ x. record d { delay = x; ctl = c.ctl }) s5.0 ∙ ap (λ x. record d { ctl = x }) s5.1

first : List (List ℕ) → ℕ
first t = get_or (get_or t 0 []) 0 0

-- the values of lines that begin with one letter, and the lines after them
peel : {X : Type 0} (Fits : X → Type 0) (f : X → List ℕ) (b : ℕ) → ((x y : X) → Fits x → Fits y → f x ≡ f y → x ≡ y) → ((x : X) → get_or (f x) 0 0 ≡ b)
    → (xs ys : List X) (t u : List (List ℕ)) → All Fits xs → All Fits ys → first t ≢ b → first u ≢ b → map f xs ++ t ≡ map f ys ++ u → (xs ≡ ys) × (t ≡ u)
unfolding first
peel Fits f b one begins [] [] t u h k nt nu e = (refl, e)
peel Fits f b one begins [] (y ∷ ys) t u h k nt nu e = absurd (nt (ap (λ l. get_or (get_or l 0 []) 0 0) e ∙ begins y))
peel Fits f b one begins (x ∷ xs) [] t u h k nt nu e = absurd (nu (ap (λ l. get_or (get_or l 0 []) 0 0) (sym e) ∙ begins x))
peel Fits f b one begins (x ∷ xs) (y ∷ ys) t u h k nt nu e =
    let rest = peel Fits f b one begins xs ys t u (All_tail Fits x xs h) (All_tail Fits y ys k) nt nu (ap (drop 1) e) in
    let head : x ≡ y = one x y (All_head Fits x xs h) (All_head Fits y ys k) (ap (λ l. get_or l 0 []) e) in
    (ap (λ z. z ∷ xs) head ∙ ap (λ l. y ∷ l) rest.0, rest.1)

after_scalars : (xs : List Array) (t : Option Ty) (rest : List (List ℕ)) → first (map array_text xs ++ result_text t ∷ rest) ≢ 115
unfolding first
after_scalars [] t rest e = omega (arith, sym (result_letter t) ∙ e)
after_scalars (x ∷ xs) t rest e = omega (arith, e)

after_arrays : (t : Option Ty) (rest : List (List ℕ)) → first (result_text t ∷ rest) ≢ 97
unfolding first
after_arrays t rest e = omega (arith, sym (result_letter t) ∙ e)

after_units : (cs : List Chan) → first (map chan_text cs ++ codes "end" ∷ []) ≢ 117
unfolding first
after_units [] e = omega (arith, e)
after_units (c ∷ cs) e = omega (arith, e)

after_chans : first (codes "end" ∷ []) ≢ 99
unfolding first
after_chans e = omega (arith, e)

-- two nets of the same lines are one
pub net_one : (ver : Version) (m n : Net) → Writes ver m → Writes ver n → texts ver m ≡ texts ver n → m ≡ n
net_one ver m n wm wn e =
    let f = wm.fits in
    let g = wn.fits in
    let name = after_word (codes "kernel ") m.name n.name (ap (λ l. get_or l 1 []) e) in
    let cm = map chan_text m.chans ++ codes "end" ∷ [] in
    let cn = map chan_text n.chans ++ codes "end" ∷ [] in
    let um = map (unit_text ver) m.units ++ cm in
    let un = map (unit_text ver) n.units ++ cn in
    let s = peel ScalarFits scalar_text 115 scalar_one (λ x. refl) m.scalars n.scalars (map array_text m.arrays ++ result_text m.result ∷ um) (map array_text n.arrays ++ result_text n.result ∷ un) f.scalars g.scalars
    (after_scalars m.arrays m.result um) (after_scalars n.arrays n.result un) (ap (drop 2) e) in
    let a = peel ArrayFits array_text 97 array_one (λ x. refl) m.arrays n.arrays (result_text m.result ∷ um) (result_text n.result ∷ un) f.arrays g.arrays (after_arrays m.result um) (after_arrays n.result un) s.1 in
    let r = result_one m.result n.result (ap (λ l. get_or l 0 []) a.1) in
    let u = peel (WritesUnit ver) (unit_text ver) 117 (unit_one ver) (λ x. ap (λ l. get_or l 0 0) (unit_kind ver x)) m.units n.units cm cn (written_units ver m wm) (written_units ver n wn) (after_units m.chans) (after_units n.chans) (ap (drop 1) a.1) in
    let c = peel ChanFits chan_text 99 chan_one (λ x. refl) m.chans n.chans (codes "end" ∷ []) (codes "end" ∷ []) f.chans g.chans after_chans after_chans u.1 in
    let e1 : m ≡ record m { name = n.name } = ap (λ x. record m { name = x }) name in
    e1 ∙ ap (λ x. record n { scalars = x; arrays = m.arrays; result = m.result; units = m.units; chans = m.chans }) s.0 ∙ ap (λ x. record n { arrays = x; result = m.result; units = m.units; chans = m.chans }) a.0
    ∙ ap (λ x. record n { result = x; units = m.units; chans = m.chans }) r ∙ ap (λ x. record n { units = x; chans = m.chans }) u.0 ∙ ap (λ x. record n { chans = x }) c.0
