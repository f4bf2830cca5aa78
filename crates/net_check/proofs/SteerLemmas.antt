-- Rule C5 from the marks of rows.
use Rattle.std.proofs.Common.{◌≡◌, ℕ, suc, ◌+◌, ◌-◌, ◌<◌, ◌≤◌, ◌&&◌, not, Bool, true, false, List, [], ◌∷◌, ◌++◌, length, get_or, sym, ap, refl, ◌∙◌, subst, arith, below_more}
use Rattle.std.proofs.lemmas.List.Elements.{All-nil, All-cons, All-head, All-tail}
use Rattle.net_types.specs.declared.net.Net.{Net}
use Rattle.net_types.specs.declared.net.Unit.{Unit as Kind}
use Rattle.net_types.specs.declared.net.Unit.TheVariants.{Fork, Branch}
use Rattle.net_types.specs.Nets.{kind_of, chan_at}
use Rattle.net_types.specs.Tables.{Spot, spots, ins, outs}
use Rattle.net_check.specs.declared.wires.Side.TheVariants.{In, Out}
use Rattle.net_check.specs.declared.wires.Wires.{Wires}
use Rattle.net_check.specs.Controls.{ctl_in, ctl_out, passes, passes_control, PlacesMarked, IsUnmarked, KeepsC5}
use Rattle.net_check.specs.Lowest.{IsLowest}
use Rattle.net_check.proofs.FirstLemmas.{kind_read, within_same, past_same, read_same}
use Rattle.net_check.specs.private.Steers.{IsTableOf, told, is_mark, agrees, is_steered, HasMark, Marked}

same_mark : (b x : Bool) → is_mark b x ≡ true → x ≡ b
same_mark true x e = e
same_mark false true e = cc
same_mark false false e = refl

mark_same : (b x : Bool) → x ≡ b → is_mark b x ≡ true
mark_same true x e = e
mark_same false x e = ap not e

and_true : (a b : Bool) → a ≡ true → b ≡ true → a && b ≡ true
and_true a b e f = rw e f

and_parts : (a b : Bool) → a && b ≡ true → (a ≡ true) × (b ≡ true)
and_parts true b e = (refl, e)
and_parts false b e = cc

marked_of : (f h : ℕ → Bool) (ss : List Spot) → ((p : ℕ) → f p ≡ h p) → agrees f ss ≡ true → Marked h ss
marked_of f h [] e a = All-nil (HasMark h)
marked_of f h (s ∷ ss) e a =
    let p = and_parts (is_mark s.ctl (f s.place)) (agrees f ss) a in
    All-cons (HasMark h) s ss (sym (e s.place) ∙ same_mark s.ctl (f s.place) p.0) (marked_of f h ss e p.1)

agrees_of : (f h : ℕ → Bool) (ss : List Spot) → ((p : ℕ) → f p ≡ h p) → Marked h ss → agrees f ss ≡ true
agrees_of f h [] e a = refl
agrees_of f h (s ∷ ss) e a =
    let here : h s.place ≡ s.ctl = All-head (HasMark h) s ss a in
    and_true (is_mark s.ctl (f s.place)) (agrees f ss) (mark_same s.ctl (f s.place) (e s.place ∙ here)) (agrees_of f h ss e (All-tail (HasMark h) s ss a))

pub agrees-append : (f : ℕ → Bool) (xs ys : List Spot) → agrees f (xs ++ ys) ≡ agrees f xs && agrees f ys
agrees-append f [] ys = refl
agrees-append f (s ∷ ss) ys = by (is_mark s.ctl (f s.place)) (agrees-append f ss ys)
  where
    by : (a : Bool) → agrees f (ss ++ ys) ≡ agrees f ss && agrees f ys → a && agrees f (ss ++ ys) ≡ (a && agrees f ss) && agrees f ys
    by true e = e
    by false e = refl

same_passes : (f h : ℕ → Bool) (k : Kind) → ((p : ℕ) → f p ≡ h p) → passes f k ≡ passes h k
same_passes f h (Fork w n) e = e 0
same_passes f h (Branch w) e = e 1
same_passes f h _ e = refl

marked_at : (net : Net) (f g : ℕ → Bool) (u : ℕ) (k : Kind) → k ≡ kind_of net u → ((p : ℕ) → f p ≡ ctl_in net u p) → ((p : ℕ) → g p ≡ ctl_out net u p)
    → is_steered net f g k ≡ true → PlacesMarked net u
marked_at net f g u k e i o t =
    let b : passes f (kind_of net u) ≡ passes_control net u = same_passes f (ctl_in net u) (kind_of net u) i in
    let p = and_parts (agrees f (ins net (passes f (kind_of net u)) (kind_of net u))) (agrees g (outs net (passes f (kind_of net u)) (kind_of net u))) (ap (is_steered net f g) (sym e) ∙ t) in
    let P : Bool → Type 0 = λ m. Marked (ctl_in net u) (ins net m (kind_of net u)) in
    let Q : Bool → Type 0 = λ m. Marked (ctl_out net u) (outs net m (kind_of net u)) in
    record { ins = subst P b (marked_of f (ctl_in net u) _ i p.0); outs = subst Q b (marked_of g (ctl_out net u) _ o p.1) }

of_marked : (net : Net) (f g : ℕ → Bool) (u : ℕ) (k : Kind) → k ≡ kind_of net u → ((p : ℕ) → f p ≡ ctl_in net u p) → ((p : ℕ) → g p ≡ ctl_out net u p)
    → PlacesMarked net u → is_steered net f g k ≡ true
of_marked net f g u k e i o so =
    let b : passes_control net u ≡ passes f (kind_of net u) = sym (same_passes f (ctl_in net u) (kind_of net u) i) in
    let P : Bool → Type 0 = λ m. Marked (ctl_in net u) (ins net m (kind_of net u)) in
    let Q : Bool → Type 0 = λ m. Marked (ctl_out net u) (outs net m (kind_of net u)) in
    let x : agrees f (ins net (passes f (kind_of net u)) (kind_of net u)) ≡ true = agrees_of f (ctl_in net u) _ i (subst P b so.ins) in
    let y : agrees g (outs net (passes f (kind_of net u)) (kind_of net u)) ≡ true = agrees_of g (ctl_out net u) _ o (subst Q b so.outs) in
    ap (is_steered net f g) e ∙ and_true _ _ x y

pub tells_in : (net : Net) (w : Wires) (u p : ℕ) → IsTableOf In net w → told net w u p ≡ ctl_in net u p
tells_in net w u p t = ap (λ c. (chan_at net c).ctl) (t.tells u p)

pub tells_out : (net : Net) (w : Wires) (u p : ℕ) → IsTableOf Out net w → told net w u p ≡ ctl_out net u p
tells_out net w u p t = ap (λ c. (chan_at net c).ctl) (t.tells u p)

pub marked_told : (net : Net) (i o : Wires) (u : ℕ) (k : Kind) → k ≡ kind_of net u → IsTableOf In net i → IsTableOf Out net o → is_steered net (told net i u) (told net o u) k ≡ true → PlacesMarked net u
marked_told net i o u k e a b t = marked_at net (told net i u) (told net o u) u k e (λ p. tells_in net i u p a) (λ p. tells_out net o u p b) t

pub unmarked_told : (net : Net) (i o : Wires) (u : ℕ) (k : Kind) → k ≡ kind_of net u → IsTableOf In net i → IsTableOf Out net o → is_steered net (told net i u) (told net o u) k ≡ false → PlacesMarked net u → ⊥
unmarked_told net i o u k e a b f s = let t = of_marked net (told net i u) (told net o u) u k e (λ p. tells_in net i u p a) (λ p. tells_out net o u p b) s in cc

lowest_unmarked : (net : Net) (u : ℕ) → u < length net.units → ((v : ℕ) → v < u → PlacesMarked net v) → (PlacesMarked net u → ⊥) → IsLowest (IsUnmarked net) u
lowest_unmarked net u l a h = record { here = record { within = l; lacks = h }; below = λ v b x. x.lacks (a v b) }

-- runs of places

pub agrees-spots-more : (f : ℕ → Bool) (q w : ℕ) (c : Bool) (n i : ℕ) → i < n
    → agrees f (spots (q + i) w c (n - i)) ≡ is_mark c (f (q + i)) && agrees f (spots (q + (i + 1)) w c (n - (i + 1)))
agrees-spots-more f q w c n i l =
    let e : n - i ≡ suc (n - (i + 1)) = omega arith in
    let d : suc (q + i) ≡ q + (i + 1) = omega arith in
    ap (λ x. agrees f (spots (q + i) w c x)) e ∙ ap (λ x. is_mark c (f (q + i)) && agrees f (spots x w c (n - (i + 1)))) d

pub agrees-spots-none : (f : ℕ → Bool) (q w : ℕ) (c : Bool) (n : ℕ) → n ≡ 0 → agrees f (spots q w c n) ≡ true
agrees-spots-none f q w c n e = ap (λ x. agrees f (spots q w c x)) e

-- what is to be tested (x) is the next mark (a) and the rest (y)
pub goes_on : (whole x a y b : Bool) → whole ≡ x → x ≡ a && y → b ≡ a → b ≡ true → whole ≡ y
goes_on whole x a y b e f g t = let k : a ≡ true = sym g ∙ t in e ∙ f ∙ ap (λ z. z && y) k

pub stops : (whole x a y b : Bool) → whole ≡ x → x ≡ a && y → b ≡ a → b ≡ false → false ≡ whole
stops whole x a y b e f g t = let k : a ≡ false = sym g ∙ t in sym (e ∙ f ∙ ap (λ z. z && y) k)

-- a queue's row is that of its controls (xs), and then that of its ports (ys)
pub ends_fail : (f : ℕ → Bool) (xs ys : List Spot) (b : Bool) → b ≡ agrees f xs → b ≡ false → false ≡ agrees f (xs ++ ys)
ends_fail f xs ys b e t = let k : agrees f xs ≡ false = sym e ∙ t in sym (agrees-append f xs ys ∙ ap (λ z. z && agrees f ys) k)

pub ports_decide : (f : ℕ → Bool) (xs ys : List Spot) (b d : Bool) → b ≡ agrees f xs → b ≡ true → d ≡ agrees f ys → d ≡ agrees f (xs ++ ys)
ports_decide f xs ys b d e t h = let z : agrees f xs ≡ true = sym e ∙ t in h ∙ sym (agrees-append f xs ys ∙ ap (λ x. x && agrees f ys) z)

-- the unit of number u, read from the list us of units
pub broken_at : (net : Net) (us : List Kind) (i o : Wires) (u : ℕ) (k : Kind) (b : Bool) → us ≡ net.units → u < length us → k ≡ get_or us u k → IsTableOf In net i → IsTableOf Out net o
    → ((v : ℕ) → v < u → PlacesMarked net v) → b ≡ is_steered net (told net i u) (told net o u) k → b ≡ false → IsLowest (IsUnmarked net) u
broken_at net us i o u k b s l r ti to inv d f =
    let m = within_same us net.units u s l in
    let g : k ≡ kind_of net u = kind_read net u k m (read_same us net.units u k s r) in
    lowest_unmarked net u m inv (unmarked_told net i o u k g ti to (sym d ∙ f))

pub kept_at : (net : Net) (us : List Kind) (i o : Wires) (u : ℕ) (k : Kind) (b : Bool) → us ≡ net.units → u < length us → k ≡ get_or us u k → IsTableOf In net i → IsTableOf Out net o
    → ((v : ℕ) → v < u → PlacesMarked net v) → b ≡ is_steered net (told net i u) (told net o u) k → b ≡ true → (v : ℕ) → v < u + 1 → PlacesMarked net v
kept_at net us i o u k b s l r ti to inv d f =
    let m = within_same us net.units u s l in
    let g : k ≡ kind_of net u = kind_read net u k m (read_same us net.units u k s r) in
    below_more _ _ inv (marked_told net i o u k g ti to (sym d ∙ f))

pub all_marked : (net : Net) (us : List Kind) (u : ℕ) → us ≡ net.units → length us ≤ u → ((v : ℕ) → v < u → PlacesMarked net v) → KeepsC5 net
all_marked net us u s l inv = record { units = λ v m. (let z = past_same us net.units u s l in inv v (omega arith)) }
