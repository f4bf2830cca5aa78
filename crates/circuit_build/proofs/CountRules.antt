-- Where nothing is open and nothing waits, each place has one channel, of its width and mark: rules C1, C2 and C5.
use Rattle.std.proofs.Common.{◌≡◌, ◌≢◌, ◌⊎◌, ℕ, zero, suc, ◌+◌, ◌^◌, ◌<◌, ◌≤◌, List, [], ◌∷◌, length, get_or, map, Bool, true, false, refl, sym, ap, subst, inl, inr, arith}
use Rattle.std.specs.Prelude.{All, cond, ◌==◌, ◌&&◌}
use Rattle.std.proofs.lemmas.Bool.{cases_eq, eq-eqb, ne_eqb}
use Rattle.std.proofs.lemmas.List.Elements.{All-nil, All-cons, All-head, All-tail}
use Rattle.std.proofs.lemmas.List.Sums.{sum_by-cons, sum_by-append}
use Rattle.net_types.specs.declared.net.Place.{Place}
use Rattle.net_types.specs.declared.net.Chan.{Chan}
use Rattle.net_types.specs.declared.net.Net.{Net}
use Rattle.net_types.specs.declared.net.Unit.{Unit as Kind}
use Rattle.net_types.specs.declared.net.Unit.TheVariants.{Fork, Branch, Sink, Exit}
use Rattle.net_types.specs.Nets.{is_at, at, into, out_of, nowhere, kind_of}
use Rattle.net_types.specs.Tables.{Spot, spot, ins, outs}
use Rattle.net_types.specs.Rules.{places_at, in_places_from, out_places_from, times_in, HasWidth, IsOfWidth, KeepsC1, KeepsC2}
use Rattle.net_check.specs.Controls.{ctl_in, ctl_out, passes, PlacesMarked, KeepsC5}
use Rattle.net_check.proofs.RowLemmas.{Rises, rises-in, rises-out}
use Rattle.circuit_build.specs.Drafts.{number}
use Rattle.circuit_build.proofs.CountBooks.{Weight, froms, tos, row, outs_of, ins_of, Books}

-- ---- weights

abbrev same : Bool → Bool → Bool
same true b = b
same false true = false
same false false = true

-- the place p of the unit u
abbrev pub at_place : ℕ → ℕ → Weight
at_place u p q v d = cond (is_at q u p) 1 0

-- that of this width and mark
abbrev at_port : ℕ → ℕ → ℕ → Bool → Weight
at_port u p w c q v d = cond (is_at q u p && ((v == w) && same d c)) 1 0

same_own : (c : Bool) → same c c ≡ true
same_own true = refl
same_own false = refl

same_is : (c d : Bool) → (c ≡ d) ⊎ (same c d ≡ false)
same_is true true = inl refl
same_is true false = inr refl
same_is false true = inr refl
same_is false false = inl refl

own_port : (u p w : ℕ) (c : Bool) → at_port u p w c (at u p) w c ≡ 1
own_port u p w c = rw (eq-eqb u u refl, eq-eqb p p refl, eq-eqb w w refl, same_own c) refl

port_le : (u p w : ℕ) (c : Bool) (q : Place) (v : ℕ) (d : Bool) → at_port u p w c q v d ≤ at_place u p q v d
port_le u p w c q v d = by (is_at q u p) ((v == w) && same d c)
  where
    by : (a b : Bool) → cond (a && b) 1 0 ≤ cond a 1 0
    by true true = omega arith
    by true false = omega arith
    by false b = omega arith

-- what the weight of a port says
pub record IsPort (u p w : ℕ) (c : Bool) (q : Place) (v : ℕ) (d : Bool) : Type 0 where
  pub unit : q.unit ≡ u
  pub place : q.place ≡ p
  pub width : v ≡ w
  pub mark : d ≡ c

port_is : (u p w : ℕ) (c : Bool) (q : Place) (v : ℕ) (d : Bool) → (at_port u p w c q v d ≡ 0) ⊎ IsPort u p w c q v d
port_is u p w c q v d = elim (cases_eq q.unit u) [
  | inr n ↦ inl (rw (ne_eqb q.unit u n) refl)
  | inl a ↦ elim (cases_eq q.place p) [
    | inr n ↦ inl (rw (eq-eqb q.unit u a, ne_eqb q.place p n) refl)
    | inl b ↦ elim (cases_eq v w) [
      | inr n ↦ inl (rw (eq-eqb q.unit u a, eq-eqb q.place p b, ne_eqb v w n) refl)
      | inl x ↦ elim (same_is d c) [
        | inr n ↦ inl (rw (eq-eqb q.unit u a, eq-eqb q.place p b, eq-eqb v w x, n) refl)
        | inl y ↦ inr (record { unit = a; place = b; width = x; mark = y })
      ]
    ]
  ]
]

-- ---- C1: the weight of a place

tos_times : (u p : ℕ) (cs : List Chan) → times_in (map (λ (c : Chan). c.to) cs) u p ≡ tos (at_place u p) cs
tos_times u p [] = refl
tos_times u p (c ∷ cs) = let a = sum_by-cons (λ q. cond (is_at q u p) 1 0) c.to (map (λ (d : Chan). d.to) cs) in let ih = tos_times u p cs in omega (arith, a, ih)

froms_times : (u p : ℕ) (cs : List Chan) → times_in (map (λ (c : Chan). c.from) cs) u p ≡ froms (at_place u p) cs
froms_times u p [] = refl
froms_times u p (c ∷ cs) = let a = sum_by-cons (λ q. cond (is_at q u p) 1 0) c.from (map (λ (d : Chan). d.from) cs) in let ih = froms_times u p cs in omega (arith, a, ih)

row_times : (u p n : ℕ) (ss : List Spot) → times_in (places_at n ss) u p ≡ row (at_place u p) n ss
row_times u p n [] = refl
row_times u p n (s ∷ ss) = let a = sum_by-cons (λ q. cond (is_at q u p) 1 0) (at n s.place) (places_at n ss) in let ih = row_times u p n ss in omega (arith, a, ih)

ins_same : (net : Net) (u p n : ℕ) (m : Bool) (k : Kind) → row (at_place u p) n (ins net m k) ≡ row (at_place u p) n (ins net false k)
ins_same net u p n m Exit = refl
ins_same net u p n m _ = refl

outs_same : (net : Net) (u p n : ℕ) (m : Bool) (k : Kind) → row (at_place u p) n (outs net m k) ≡ row (at_place u p) n (outs net false k)
outs_same net u p n m (Fork w zero) = refl
outs_same net u p n m (Fork w (suc o)) = refl
outs_same net u p n m _ = refl

abbrev Few : ℕ → List Kind → Type 0
Few n ks = n + length ks ≤ 2 ^ 32

ins_times : (net : Net) (u p n : ℕ) (ks : List Kind) (ms : List Bool) → length ms ≡ length ks → Few n ks → times_in (in_places_from net n ks) u p ≡ ins_of net (at_place u p) n ks ms
ins_times net u p n [] ms l h = refl
ins_times net u p n (k ∷ ks) [] l h = absurd (omega arith)
ins_times net u p n (k ∷ ks) (m ∷ ms) l h =
    let a = sum_by-append (λ q. cond (is_at q u p) 1 0) (places_at n (ins net false k)) (in_places_from net (suc n) ks) in
    let b = row_times u p n (ins net false k) in
    let c = ins_same net u p n m k in
    let z : n ≡ number n = omega arith in
    let d = ap (λ v. row (at_place u p) v (ins net m k)) z in
    let ih = ins_times net u p (suc n) ks ms (omega arith) (omega arith) in
    omega (arith, a, b, c, d, ih)

outs_times : (net : Net) (u p n : ℕ) (ks : List Kind) (ms : List Bool) → length ms ≡ length ks → Few n ks → times_in (out_places_from net n ks) u p ≡ outs_of net (at_place u p) n ks ms
outs_times net u p n [] ms l h = refl
outs_times net u p n (k ∷ ks) [] l h = absurd (omega arith)
outs_times net u p n (k ∷ ks) (m ∷ ms) l h =
    let a = sum_by-append (λ q. cond (is_at q u p) 1 0) (places_at n (outs net false k)) (out_places_from net (suc n) ks) in
    let b = row_times u p n (outs net false k) in
    let c = outs_same net u p n m k in
    let z : n ≡ number n = omega arith in
    let d = ap (λ v. row (at_place u p) v (outs net m k)) z in
    let ih = outs_times net u p (suc n) ks ms (omega arith) (omega arith) in
    omega (arith, a, b, c, d, ih)

-- nothing open and nothing waiting
abbrev pub Closed : Net → Type 0
Closed net = Books net net.units net.chans (λ f. 0) (λ f. 0)

pub keeps_c1 : (net : Net) → length net.units < 2 ^ 32 → Closed net → KeepsC1 net
keeps_c1 net few b = record {
  into_each = λ u p. let x = b.into (at_place u p) in let y = tos_times u p net.chans in let z = ins_times net u p 0 net.units b.marks b.same (omega arith) in omega (arith, x, y, z);
  out_of_each = λ u p. let x = b.out (at_place u p) in let y = froms_times u p net.chans in let z = outs_times net u p 0 net.units b.marks b.same (omega arith) in omega (arith, x, y, z);
}

-- ---- C2: the weight of a port

no_row : (u p w : ℕ) (c : Bool) (n : ℕ) (ss : List Spot) → n ≢ u → row (at_port u p w c) n ss ≡ 0
no_row u p w c n [] h = refl
no_row u p w c n (s ∷ ss) h =
    let ih = no_row u p w c n ss h in
    elim (port_is u p w c (at n s.place) s.width s.ctl) [
      | inl e ↦ omega (arith, e, ih)
      | inr i ↦ absurd (h i.unit)
    ]

row_has : (u p w : ℕ) (c : Bool) (n : ℕ) (ss : List Spot) → 1 ≤ row (at_port u p w c) n ss → HasWidth ss p w
row_has u p w c n [] h = absurd (omega (arith, h))
row_has u p w c n (s ∷ ss) h =
    elim (port_is u p w c (at n s.place) s.width s.ctl) [
      | inl e ↦ inr (row_has u p w c n ss (omega (arith, e, h)))
      | inr i ↦ inl (i.place, i.width)
    ]

out_width : (net : Net) (p w : ℕ) (m : Bool) (k : Kind) → HasWidth (outs net m k) p w → HasWidth (outs net false k) p w
out_width net p w m (Fork x zero) h = h
out_width net p w m (Fork x (suc o)) h = h
out_width net p w m _ h = h

in_width : (net : Net) (p w : ℕ) (m : Bool) (k : Kind) → HasWidth (ins net m k) p w → HasWidth (ins net false k) p w
in_width net p w m Exit h = h
in_width net p w m _ h = h

outs_before : (net : Net) (u p w : ℕ) (c : Bool) (n : ℕ) (ks : List Kind) (ms : List Bool) → Few n ks → u < n → outs_of net (at_port u p w c) n ks ms ≡ 0
outs_before net u p w c n [] ms h l = refl
outs_before net u p w c n (k ∷ ks) [] h l = refl
outs_before net u p w c n (k ∷ ks) (m ∷ ms) h l =
    let a = no_row u p w c (number n) (outs net m k) (λ e. absurd (omega (arith, e, h, l))) in
    let ih = outs_before net u p w c (suc n) ks ms (omega arith) (omega arith) in
    omega (arith, a, ih)

ins_before : (net : Net) (u p w : ℕ) (c : Bool) (n : ℕ) (ks : List Kind) (ms : List Bool) → Few n ks → u < n → ins_of net (at_port u p w c) n ks ms ≡ 0
ins_before net u p w c n [] ms h l = refl
ins_before net u p w c n (k ∷ ks) [] h l = refl
ins_before net u p w c n (k ∷ ks) (m ∷ ms) h l =
    let a = no_row u p w c (number n) (ins net m k) (λ e. absurd (omega (arith, e, h, l))) in
    let ih = ins_before net u p w c (suc n) ks ms (omega arith) (omega arith) in
    omega (arith, a, ih)

outs_width : (net : Net) (u p w : ℕ) (c : Bool) (n i : ℕ) (ks : List Kind) (ms : List Bool) → Few n ks → u ≡ n + i → 1 ≤ outs_of net (at_port u p w c) n ks ms → HasWidth (outs net false (get_or ks i (Sink 0))) p w
outs_width net u p w c n i [] ms h e s = absurd (omega (arith, s))
outs_width net u p w c n i (k ∷ ks) [] h e s = absurd (omega (arith, s))
outs_width net u p w c n zero (k ∷ ks) (m ∷ ms) h e s =
    let a = outs_before net u p w c (suc n) ks ms (omega arith) (omega arith) in
    out_width net p w m k (row_has u p w c (number n) (outs net m k) (omega (arith, a, s)))
outs_width net u p w c n (suc i) (k ∷ ks) (m ∷ ms) h e s =
    let a = no_row u p w c (number n) (outs net m k) (λ x. absurd (omega (arith, x, h, e))) in
    outs_width net u p w c (suc n) i ks ms (omega arith) (omega arith) (omega (arith, a, s))

ins_width : (net : Net) (u p w : ℕ) (c : Bool) (n i : ℕ) (ks : List Kind) (ms : List Bool) → Few n ks → u ≡ n + i → 1 ≤ ins_of net (at_port u p w c) n ks ms → HasWidth (ins net false (get_or ks i (Sink 0))) p w
ins_width net u p w c n i [] ms h e s = absurd (omega (arith, s))
ins_width net u p w c n i (k ∷ ks) [] h e s = absurd (omega (arith, s))
ins_width net u p w c n zero (k ∷ ks) (m ∷ ms) h e s =
    let a = ins_before net u p w c (suc n) ks ms (omega arith) (omega arith) in
    in_width net p w m k (row_has u p w c (number n) (ins net m k) (omega (arith, a, s)))
ins_width net u p w c n (suc i) (k ∷ ks) (m ∷ ms) h e s =
    let a = no_row u p w c (number n) (ins net m k) (λ x. absurd (omega (arith, x, h, e))) in
    ins_width net u p w c (suc n) i ks ms (omega arith) (omega arith) (omega (arith, a, s))

each_chan : (P : Chan → Type 0) (cs : List Chan) → ((c : Chan) → 1 ≤ froms (at_port c.from.unit c.from.place c.width c.ctl) cs → 1 ≤ tos (at_port c.to.unit c.to.place c.width c.ctl) cs → P c) → All P cs
each_chan P [] h = All-nil P
each_chan P (c ∷ cs) h =
    let a = own_port c.from.unit c.from.place c.width c.ctl in
    let b = own_port c.to.unit c.to.place c.width c.ctl in
    All-cons P c cs (h c (omega (arith, a)) (omega (arith, b))) (each_chan P cs (λ d x y. h d (omega (arith, x)) (omega (arith, y))))

pub keeps_c2 : (net : Net) → length net.units < 2 ^ 32 → Closed net → KeepsC2 net
keeps_c2 net few b = record {
  units = b.fit;
  chans = each_chan (IsOfWidth net) net.chans (λ c s t. record {
    source = let x = b.out (at_port c.from.unit c.from.place c.width c.ctl) in outs_width net c.from.unit c.from.place c.width c.ctl 0 c.from.unit net.units b.marks (omega arith) (omega arith) (omega (arith, x, s));
    target = let x = b.into (at_port c.to.unit c.to.place c.width c.ctl) in ins_width net c.to.unit c.to.place c.width c.ctl 0 c.to.unit net.units b.marks (omega arith) (omega arith) (omega (arith, x, t));
  });
}

-- ---- C5: the first channel at a place is the one of its mark

first_to : (u p w : ℕ) (c : Bool) (cs : List Chan) → tos (at_place u p) cs ≤ 1 → 1 ≤ tos (at_port u p w c) cs → (get_or cs (into u p cs) nowhere).ctl ≡ c
first_to u p w c [] l h = absurd (omega (arith, h))
first_to u p w c (x ∷ cs) l h = by (is_at x.to u p) (first_to u p w c cs) refl
  where
    none : (ds : List Chan) → tos (at_place u p) ds ≡ 0 → tos (at_port u p w c) ds ≡ 0
    none [] e = refl
    none (d ∷ ds) e = let a = port_le u p w c d.to d.width d.ctl in let ih = none ds (omega (arith, e)) in omega (arith, a, e, ih)

    by : (b : Bool) → (tos (at_place u p) cs ≤ 1 → 1 ≤ tos (at_port u p w c) cs → (get_or cs (into u p cs) nowhere).ctl ≡ c) → is_at x.to u p ≡ b → (get_or (x ∷ cs) (cond (is_at x.to u p) 0 (suc (into u p cs))) nowhere).ctl ≡ c
    by true ih e =
        let y : at_place u p x.to x.width x.ctl ≡ 1 = ap (λ b. cond b 1 0) e in
        let z = none cs (omega (arith, y, l)) in
        elim (port_is u p w c x.to x.width x.ctl) [
          | inl n ↦ absurd (omega (arith, n, z, h))
          | inr i ↦ rw e i.mark
        ]
    by false ih e =
        let y : at_place u p x.to x.width x.ctl ≡ 0 = ap (λ b. cond b 1 0) e in
        let a = port_le u p w c x.to x.width x.ctl in
        rw e (ih (omega (arith, y, l)) (omega (arith, a, y, h)))

first_from : (u p w : ℕ) (c : Bool) (cs : List Chan) → froms (at_place u p) cs ≤ 1 → 1 ≤ froms (at_port u p w c) cs → (get_or cs (out_of u p cs) nowhere).ctl ≡ c
first_from u p w c [] l h = absurd (omega (arith, h))
first_from u p w c (x ∷ cs) l h = by (is_at x.from u p) (first_from u p w c cs) refl
  where
    none : (ds : List Chan) → froms (at_place u p) ds ≡ 0 → froms (at_port u p w c) ds ≡ 0
    none [] e = refl
    none (d ∷ ds) e = let a = port_le u p w c d.from d.width d.ctl in let ih = none ds (omega (arith, e)) in omega (arith, a, e, ih)

    by : (b : Bool) → (froms (at_place u p) cs ≤ 1 → 1 ≤ froms (at_port u p w c) cs → (get_or cs (out_of u p cs) nowhere).ctl ≡ c) → is_at x.from u p ≡ b → (get_or (x ∷ cs) (cond (is_at x.from u p) 0 (suc (out_of u p cs))) nowhere).ctl ≡ c
    by true ih e =
        let y : at_place u p x.from x.width x.ctl ≡ 1 = ap (λ b. cond b 1 0) e in
        let z = none cs (omega (arith, y, l)) in
        elim (port_is u p w c x.from x.width x.ctl) [
          | inl n ↦ absurd (omega (arith, n, z, h))
          | inr i ↦ rw e i.mark
        ]
    by false ih e =
        let y : at_place u p x.from x.width x.ctl ≡ 0 = ap (λ b. cond b 1 0) e in
        let a = port_le u p w c x.from x.width x.ctl in
        rw e (ih (omega (arith, y, l)) (omega (arith, a, y, h)))

-- the row of a unit is a part of the whole
ins_part : (net : Net) (f : Weight) (u n i : ℕ) (ks : List Kind) (ms : List Bool) → length ms ≡ length ks → Few n ks → u ≡ n + i → i < length ks → row f u (ins net (get_or ms i false) (get_or ks i (Sink 0))) ≤ ins_of net f n ks ms
ins_part net f u n i [] ms l h e t = absurd (omega arith)
ins_part net f u n i (k ∷ ks) [] l h e t = absurd (omega arith)
ins_part net f u n zero (k ∷ ks) (m ∷ ms) l h e t = let z : u ≡ number n = omega arith in let d = ap (λ v. row f v (ins net m k)) z in omega (arith, d)
ins_part net f u n (suc i) (k ∷ ks) (m ∷ ms) l h e t = let ih = ins_part net f u (suc n) i ks ms (omega arith) (omega arith) (omega arith) (omega arith) in omega (arith, ih)

outs_part : (net : Net) (f : Weight) (u n i : ℕ) (ks : List Kind) (ms : List Bool) → length ms ≡ length ks → Few n ks → u ≡ n + i → i < length ks → row f u (outs net (get_or ms i false) (get_or ks i (Sink 0))) ≤ outs_of net f n ks ms
outs_part net f u n i [] ms l h e t = absurd (omega arith)
outs_part net f u n i (k ∷ ks) [] l h e t = absurd (omega arith)
outs_part net f u n zero (k ∷ ks) (m ∷ ms) l h e t = let z : u ≡ number n = omega arith in let d = ap (λ v. row f v (outs net m k)) z in omega (arith, d)
outs_part net f u n (suc i) (k ∷ ks) (m ∷ ms) l h e t = let ih = outs_part net f u (suc n) i ks ms (omega arith) (omega arith) (omega arith) (omega arith) in omega (arith, ih)

each_spot : (u : ℕ) (g : ℕ → Bool) (ss : List Spot) → ((p w : ℕ) (c : Bool) → 1 ≤ row (at_port u p w c) u ss → g p ≡ c) → All (λ (s : Spot). g s.place ≡ s.ctl) ss
each_spot u g [] h = All-nil (λ (s : Spot). g s.place ≡ s.ctl)
each_spot u g (s ∷ ss) h =
    let a = own_port u s.place s.width s.ctl in
    All-cons (λ (s : Spot). g s.place ≡ s.ctl) s ss (h s.place s.width s.ctl (omega (arith, a))) (each_spot u g ss (λ p w c x. h p w c (omega (arith, x))))

-- a fork passes what comes into it, and a branch what comes into its data
marked : (net : Net) (f g : ℕ → Bool) (m : Bool) (k : Kind) → All (λ (s : Spot). f s.place ≡ s.ctl) (ins net m k) → All (λ (s : Spot). g s.place ≡ s.ctl) (outs net m k)
    → All (λ (s : Spot). f s.place ≡ s.ctl) (ins net (passes f k) k) × All (λ (s : Spot). g s.place ≡ s.ctl) (outs net (passes f k) k)
marked net f g m (Fork w n) a b =
    let e : f 0 ≡ m = All-head (λ (s : Spot). f s.place ≡ s.ctl) (spot 0 w m) [] a in
    subst (λ x. All (λ (s : Spot). f s.place ≡ s.ctl) (ins net x (Fork w n)) × All (λ (s : Spot). g s.place ≡ s.ctl) (outs net x (Fork w n))) (sym e) (a, b)
marked net f g m (Branch w) a b =
    let e : f 1 ≡ m = All-head (λ (s : Spot). f s.place ≡ s.ctl) (spot 1 w m) [] (All-tail (λ (s : Spot). f s.place ≡ s.ctl) (spot 0 32 false) (spot 1 w m ∷ []) a) in
    subst (λ x. All (λ (s : Spot). f s.place ≡ s.ctl) (ins net x (Branch w)) × All (λ (s : Spot). g s.place ≡ s.ctl) (outs net x (Branch w))) (sym e) (a, b)
marked net f g m _ a b = (a, b)

-- a place stands once in a row, which rises, and at one unit
pub place_no : (u p n q : ℕ) → q ≢ p → at_place u p (at n q) 0 false ≡ 0
place_no u p n q h = by (n == u) (ne_eqb q p h)
  where
    by : (b : Bool) → (q == p) ≡ false → cond (b && (q == p)) 1 0 ≡ (let z : ℕ = 0 in z)
    by true e = ap (λ c. cond c 1 0) e
    by false e = refl

place_one : (u p n q : ℕ) → at_place u p (at n q) 0 false ≤ 1
place_one u p n q = by ((n == u) && (q == p))
  where
    by : (b : Bool) → cond b 1 0 ≤ 1
    by true = omega arith
    by false = omega arith

row_low : (u p n r : ℕ) (ss : List Spot) → Rises r ss → p < r → row (at_place u p) n ss ≡ 0
row_low u p n r [] h l = refl
row_low u p n r (s ∷ ss) h l =
    let y : r ≤ s.place = h.0 in
    let a = place_no u p n s.place (λ e. absurd (omega (arith, e, y, l))) in
    let i = row_low u p n (suc s.place) ss h.1 (omega (arith, y, l)) in
    omega (arith, a, i)

row_most : (u p n r : ℕ) (ss : List Spot) → Rises r ss → row (at_place u p) n ss ≤ 1
row_most u p n r [] h = omega arith
row_most u p n r (s ∷ ss) h = elim (cases_eq s.place p) [
  | inl e ↦ (let a = place_one u p n s.place in let i = row_low u p n (suc s.place) ss h.1 (omega (arith, e)) in omega (arith, a, i))
  | inr d ↦ (let a = place_no u p n s.place d in let i = row_most u p n (suc s.place) ss h.1 in omega (arith, a, i))
]

pub row_other : (u p n : ℕ) (ss : List Spot) → n ≢ u → row (at_place u p) n ss ≡ 0
row_other u p n [] h = refl
row_other u p n (s ∷ ss) h =
    let a : at_place u p (at n s.place) s.width s.ctl ≡ 0 = ap (λ b. cond (b && (s.place == p)) 1 0) (ne_eqb n u h) in
    let i = row_other u p n ss h in
    omega (arith, a, i)

in_before : (net : Net) (u p n : ℕ) (ks : List Kind) (ms : List Bool) → Few n ks → u < n → ins_of net (at_place u p) n ks ms ≡ 0
in_before net u p n [] ms h l = refl
in_before net u p n (k ∷ ks) [] h l = refl
in_before net u p n (k ∷ ks) (m ∷ ms) h l =
    let a = row_other u p (number n) (ins net m k) (λ e. absurd (omega (arith, e, h, l))) in
    let i = in_before net u p (suc n) ks ms (omega arith) (omega arith) in
    omega (arith, a, i)

pub out_before : (net : Net) (u p n : ℕ) (ks : List Kind) (ms : List Bool) → Few n ks → u < n → outs_of net (at_place u p) n ks ms ≡ 0
out_before net u p n [] ms h l = refl
out_before net u p n (k ∷ ks) [] h l = refl
out_before net u p n (k ∷ ks) (m ∷ ms) h l =
    let a = row_other u p (number n) (outs net m k) (λ e. absurd (omega (arith, e, h, l))) in
    let i = out_before net u p (suc n) ks ms (omega arith) (omega arith) in
    omega (arith, a, i)

in_most : (net : Net) (u p n : ℕ) (ks : List Kind) (ms : List Bool) → Few n ks → ins_of net (at_place u p) n ks ms ≤ 1
in_most net u p n [] ms h = omega arith
in_most net u p n (k ∷ ks) [] h = omega arith
in_most net u p n (k ∷ ks) (m ∷ ms) h = elim (cases_eq n u) [
  | inl e ↦ (let a = row_most u p (number n) 0 (ins net false k) (rises-in net k) in let b = ins_same net u p (number n) m k in let i = in_before net u p (suc n) ks ms (omega arith) (omega (arith, e)) in omega (arith, a, b, i))
  | inr d ↦ (let a = row_other u p (number n) (ins net m k) (λ e. d (omega (arith, e, h))) in let i = in_most net u p (suc n) ks ms (omega arith) in omega (arith, a, i))
]

out_most : (net : Net) (u p n : ℕ) (ks : List Kind) (ms : List Bool) → Few n ks → outs_of net (at_place u p) n ks ms ≤ 1
out_most net u p n [] ms h = omega arith
out_most net u p n (k ∷ ks) [] h = omega arith
out_most net u p n (k ∷ ks) (m ∷ ms) h = elim (cases_eq n u) [
  | inl e ↦ (let a = row_most u p (number n) 0 (outs net false k) (rises-out net k) in let b = outs_same net u p (number n) m k in let i = out_before net u p (suc n) ks ms (omega arith) (omega (arith, e)) in omega (arith, a, b, i))
  | inr d ↦ (let a = row_other u p (number n) (outs net m k) (λ e. d (omega (arith, e, h))) in let i = out_most net u p (suc n) ks ms (omega arith) in omega (arith, a, i))
]

pub one_in : (net : Net) → length net.units < 2 ^ 32 → Closed net → (u p : ℕ) → tos (at_place u p) net.chans ≤ 1
one_in net few b u p = let x = b.into (at_place u p) in let y = in_most net u p 0 net.units b.marks (omega (arith, few)) in omega (arith, x, y)

pub one_out : (net : Net) → length net.units < 2 ^ 32 → Closed net → (u p : ℕ) → froms (at_place u p) net.chans ≤ 1
one_out net few b u p = let x = b.out (at_place u p) in let y = out_most net u p 0 net.units b.marks (omega (arith, few)) in omega (arith, x, y)

pub keeps_c5 : (net : Net) → length net.units < 2 ^ 32 → Closed net → KeepsC5 net
keeps_c5 net few b = record { units = λ u l. at_unit u l }
  where
    at_unit : (u : ℕ) → u < length net.units → PlacesMarked net u
    at_unit u l =
        let m = get_or b.marks u false in
        let i = each_spot u (ctl_in net u) (ins net m (kind_of net u)) (λ p w c h. first_to u p w c net.chans (one_in net few b u p) (let x = b.into (at_port u p w c) in let y = ins_part net (at_port u p w c) u 0 u net.units b.marks b.same (omega arith) (omega arith) l in omega (arith, x, y, h))) in
        let o = each_spot u (ctl_out net u) (outs net m (kind_of net u)) (λ p w c h. first_from u p w c net.chans (one_out net few b u p) (let x = b.out (at_port u p w c) in let y = outs_part net (at_port u p w c) u 0 u net.units b.marks b.same (omega arith) (omega arith) l in omega (arith, x, y, h))) in
        let r = marked net (ctl_in net u) (ctl_out net u) m (kind_of net u) i o in
        record { ins = r.0; outs = r.1 }
