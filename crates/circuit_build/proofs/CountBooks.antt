-- Places of units and ends of channels, weighed: what is laid is kept in balance with what is open.
use Rattle.std.proofs.Common.{◌≡◌, ℕ, suc, ◌+◌, List, [], ◌∷◌, ◌++◌, length, Bool, arith, length-append}
use Rattle.std.specs.Prelude.{All, IsTrue}
use Rattle.std.proofs.lemmas.List.Elements.{All-nil, All-cons, All-append}
use Rattle.net_types.specs.declared.net.Place.{Place}
use Rattle.net_types.specs.declared.net.Chan.{Chan}
use Rattle.net_types.specs.declared.net.Net.{Net}
use Rattle.net_types.specs.declared.net.Unit.{Unit as Kind}
use Rattle.net_types.specs.Nets.{at}
use Rattle.net_types.specs.Tables.{Spot, ins, outs}
use Rattle.net_types.specs.Rules.{width_fits}
use Rattle.circuit_build.specs.Drafts.{number}

-- what a place of a width counts, as control or as data
abbrev pub Weight : Type 0
Weight = Place → ℕ → Bool → ℕ

abbrev pub Sum : Type 0
Sum = Weight → ℕ

abbrev pub froms : Weight → List Chan → ℕ
froms f [] = 0
froms f (c ∷ cs) = f c.from c.width c.ctl + froms f cs

abbrev pub tos : Weight → List Chan → ℕ
tos f [] = 0
tos f (c ∷ cs) = f c.to c.width c.ctl + tos f cs

-- the places of a row of the table, at a unit
abbrev pub row : Weight → ℕ → List Spot → ℕ
row f u [] = 0
row f u (s ∷ ss) = f (at u s.place) s.width s.ctl + row f u ss

-- the output places of units numbered from n on; a mark says of each whether it passes control
abbrev pub outs_of : Net → Weight → ℕ → List Kind → List Bool → ℕ
outs_of net f n [] ms = 0
outs_of net f n (k ∷ ks) [] = 0
outs_of net f n (k ∷ ks) (m ∷ ms) = row f (number n) (outs net m k) + outs_of net f (suc n) ks ms

abbrev pub ins_of : Net → Weight → ℕ → List Kind → List Bool → ℕ
ins_of net f n [] ms = 0
ins_of net f n (k ∷ ks) [] = 0
ins_of net f n (k ∷ ks) (m ∷ ms) = row f (number n) (ins net m k) + ins_of net f (suc n) ks ms

-- have: what is open, an output place without a channel; owe: what waits, an input place without one
pub record Books (net : Net) (us : List Kind) (cs : List Chan) (owe have : Sum) : Type 0 where
  pub marks : List Bool
  pub same : length marks ≡ length us
  pub out : (f : Weight) → froms f cs + have f ≡ outs_of net f 0 us marks
  pub into : (f : Weight) → tos f cs + owe f ≡ ins_of net f 0 us marks
  pub fit : All (λ k. IsTrue (width_fits k)) us

outs_more : (net : Net) (f : Weight) (n j : ℕ) (us : List Kind) (ms : List Bool) (k : Kind) (m : Bool) → length ms ≡ length us → j ≡ n + length us
    → outs_of net f n (us ++ k ∷ []) (ms ++ m ∷ []) ≡ outs_of net f n us ms + row f (number j) (outs net m k)
outs_more net f n j [] [] k m l e = let z : j ≡ n = omega arith in rw z (omega arith)
outs_more net f n j [] (b ∷ ms) k m l e = absurd (omega arith)
outs_more net f n j (x ∷ us) [] k m l e = absurd (omega arith)
outs_more net f n j (x ∷ us) (b ∷ ms) k m l e = let ih = outs_more net f (suc n) j us ms k m (omega arith) (omega arith) in omega arith

ins_more : (net : Net) (f : Weight) (n j : ℕ) (us : List Kind) (ms : List Bool) (k : Kind) (m : Bool) → length ms ≡ length us → j ≡ n + length us
    → ins_of net f n (us ++ k ∷ []) (ms ++ m ∷ []) ≡ ins_of net f n us ms + row f (number j) (ins net m k)
ins_more net f n j [] [] k m l e = let z : j ≡ n = omega arith in rw z (omega arith)
ins_more net f n j [] (b ∷ ms) k m l e = absurd (omega arith)
ins_more net f n j (x ∷ us) [] k m l e = absurd (omega arith)
ins_more net f n j (x ∷ us) (b ∷ ms) k m l e = let ih = ins_more net f (suc n) j us ms k m (omega arith) (omega arith) in omega arith

froms_more : (f : Weight) (cs : List Chan) (c : Chan) → froms f (cs ++ c ∷ []) ≡ froms f cs + f c.from c.width c.ctl
froms_more f [] c = omega arith
froms_more f (x ∷ cs) c = let ih = froms_more f cs c in omega arith

tos_more : (f : Weight) (cs : List Chan) (c : Chan) → tos f (cs ++ c ∷ []) ≡ tos f cs + f c.to c.width c.ctl
tos_more f [] c = omega arith
tos_more f (x ∷ cs) c = let ih = tos_more f cs c in omega arith

-- ---- one part more

abbrev pub chan : Place → Place → ℕ → Bool → Chan
chan p q w c = record { from = p; to = q; width = w; slots = 1; delay = 1; ctl = c }

pub moved : {net : Net} {us : List Kind} {cs : List Chan} {o h : Sum} (o' h' : Sum) → Books net us cs o h → ((f : Weight) → o f ≡ o' f) → ((f : Weight) → h f ≡ h' f) → Books net us cs o' h'
moved o' h' b s t = record {
  marks = b.marks;
  same = b.same;
  out = λ f. let x = b.out f in let y = t f in omega arith;
  into = λ f. let x = b.into f in let y = s f in omega arith;
  fit = b.fit;
}

pub lay_unit : {net : Net} {us : List Kind} {cs : List Chan} {o h : Sum} (k : Kind) (m : Bool) (o' h' : Sum) → Books net us cs o h → IsTrue (width_fits k)
    → ((f : Weight) → o f + row f (number (length us)) (ins net m k) ≡ o' f) → ((f : Weight) → h f + row f (number (length us)) (outs net m k) ≡ h' f) → Books net (us ++ k ∷ []) cs o' h'
lay_unit {net} {us} {cs} {o} {h} k m o' h' b w s t = record {
  marks = b.marks ++ m ∷ [];
  same = let e = b.same in omega (arith, length-append b.marks (m ∷ []), length-append us (k ∷ []));
  out = λ f. let x = b.out f in let y = t f in let z = outs_more net f 0 (length us) us b.marks k m b.same (omega arith) in omega arith;
  into = λ f. let x = b.into f in let y = s f in let z = ins_more net f 0 (length us) us b.marks k m b.same (omega arith) in omega arith;
  fit = All-append (λ k. IsTrue (width_fits k)) us (k ∷ []) b.fit (All-cons (λ k. IsTrue (width_fits k)) k [] w (All-nil (λ k. IsTrue (width_fits k))));
}

pub lay_chan : {net : Net} {us : List Kind} {cs : List Chan} {o h : Sum} (p q : Place) (w : ℕ) (c : Bool) (o' h' : Sum) → Books net us cs o h
    → ((f : Weight) → o f ≡ f q w c + o' f) → ((f : Weight) → h f ≡ f p w c + h' f) → Books net us (cs ++ chan p q w c ∷ []) o' h'
lay_chan {net} {us} {cs} {o} {h} p q w c o' h' b s t = record {
  marks = b.marks;
  same = b.same;
  out = λ f. let x = b.out f in let y = t f in let z = froms_more f cs (chan p q w c) in omega arith;
  into = λ f. let x = b.into f in let y = s f in let z = tos_more f cs (chan p q w c) in omega arith;
  fit = b.fit;
}
