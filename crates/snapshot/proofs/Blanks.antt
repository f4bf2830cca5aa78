-- The draft before the first line may be saved.
use Rattle.std.proofs.Common.{◌≡◌, ◌⊎◌, ℕ, ◌<◌, ◌≤◌, ◌^◌, false, Option, Some, None, List, [], ◌∷◌, map, length, get_or, replicate, refl, sym, subst, inl, inr, arith}
use Rattle.std.specs.List.{All, AllZip}
use Rattle.std.proofs.lemmas.Bool.{cases_lt}
use Rattle.std.proofs.lemmas.List.{length-replicate, get_or-replicate, get_or_past}
use Rattle.std.proofs.lemmas.List.Elements.{All-nil}
use Rattle.std.proofs.lemmas.Nat.{pow_pos}
use Rattle.el_base.specs.declared.ty.Array.{Array}
use Rattle.el_base.specs.declared.ty.Scalar.{Scalar}
use Rattle.el_base.specs.declared.ty.Ty.{Ty}
use Rattle.el_base.specs.Widths.{ty_width}
use Rattle.net_types.specs.declared.net.Net.{Net}
use Rattle.net_types.specs.declared.net.Unit.{Unit as Kind}
use Rattle.net_types.specs.declared.net.Unit.TheVariants.{Entry, Fork, Lsq}
use Rattle.net_types.specs.Inputs.{IsPatternOf, AreElementsOf}
use Rattle.net_types.specs.Nets.{kind_of, chan_at}
use Rattle.net_types.specs.Tables.{array_width}
use Rattle.net_check.specs.Checks.{IsChecked}
use Rattle.net_check.specs.Shapes.{HasShape}
use Rattle.lsq_core.specs.declared.part.QueuePart.{QueuePart}
use Rattle.lsq_core.specs.Parts.{MayStand, queue_of}
use Rattle.net_core.specs.declared.parts.Parts.{Parts}
use Rattle.net_core.specs.Parts.{no_part, OwnStands, SentFits, Rising, noted_outs}
use Rattle.snapshot.specs.Fits.{EntryFits, UnitFits, ValueFits, max_count}
use Rattle.snapshot.specs.Refusals.{MaySave}
use Rattle.snapshot.specs.private.Drafts.{BlankFired, blank_parts, zero_elements}

-- items of one kind are that kind everywhere
pub same_everywhere : {V : Type 0} (n : ℕ) (v : V) (i : ℕ) → get_or (replicate n v) i v ≡ v
same_everywhere {V} n v i = by (cases_lt i n)
  where
    by : (i < n) ⊎ (n ≤ i) → get_or (replicate n v) i v ≡ v
    by (inl l) = get_or-replicate n i v v l
    by (inr l) = get_or_past (replicate n v) i v (let z = length-replicate n v in omega arith)

zero_scalars : (ss : List Scalar) → AllZip (λ (s : Scalar) n. IsPatternOf s.ty n) ss (replicate (length ss) 0)
zero_scalars [] = tt
zero_scalars (s ∷ ss) = (pow_pos (ty_width s.ty), zero_scalars ss)

zeros_fit : (ty : Ty) (n : ℕ) → All (IsPatternOf ty) (replicate n 0)
zeros_fit ty n i d l = subst (IsPatternOf ty) (sym (get_or-replicate n i 0 d (omega (arith, l, length-replicate {A = ℕ} n 0)))) (pow_pos (ty_width ty))

zero_arrays : (xs : List Array) → AllZip AreElementsOf xs (map zero_elements xs)
zero_arrays [] = tt
zero_arrays (a ∷ xs) = (record { len = length-replicate a.len 0; patterns = zeros_fit a.ty a.len }, zero_arrays xs)

none_own : (k : Kind) (p : Parts) (u : ℕ) → HasShape k → get_or p.sent u [] ≡ [] → get_or p.queues u no_part ≡ no_part → OwnStands k p u
none_own (Fork w outs) p u shape e f = subst (SentFits outs) (sym e) (record { rising = tt; within = All-nil (λ j. j < outs); some = shape.some })
none_own (Lsq a d ps gs g) p u shape e f = subst (λ x. MayStand d (length ps) (queue_of g x)) (sym f) (record { room = omega arith; order = λ i l. absurd (omega arith); named = λ i l. absurd (omega arith); numbered = omega arith; next = omega arith })
none_own Entry p u shape e f = tt
none_own k p u shape e f = tt

none_units : (net : Net) (k : Kind) (p : Parts) (u : ℕ) → get_or p.sent u [] ≡ [] → get_or p.queues u no_part ≡ no_part → UnitFits net p u k
none_units net (Fork w outs) p u e f = λ n. absurd (n e)
none_units net (Lsq a d ps gs g) p u e f = subst (λ (x : QueuePart). All (EntryFits (array_width net.arrays a) ps) x.entries) (sym f) (All-nil (EntryFits (array_width net.arrays a) ps))
none_units net Entry p u e f = tt
none_units net k p u e f = tt

none_value : (o : Option Ty) → ValueFits o false None
none_value None = refl
none_value (Some ty) = refl

pub blank_may : (net : Net) → IsChecked net → MaySave net (record { made = 0; parts = blank_parts net })
blank_may net checked = record {
  made = omega arith;
  fits = record {
    stands = record {
      fit = record { scalars = zero_scalars net.scalars; arrays = zero_arrays net.arrays };
      chans = length-replicate (length net.chans) [];
      slots = λ c. subst (λ (l : List ℕ). length l ≤ (chan_at net c).slots) (sym (same_everywhere (length net.chans) [] c)) (omega arith);
      own = λ u l. none_own (kind_of net u) (blank_parts net) u (checked.shapes u) (same_everywhere (length net.units) [] u) (same_everywhere (length net.units) no_part u);
      strays = length-replicate (length net.arrays) 0;
    };
    by_unit = record {
      sent_long = length-replicate (length net.units) [];
      fired_long = length-replicate (length net.units) false;
      queues_long = length-replicate (length net.units) no_part;
      rising = λ u. subst Rising (sym (same_everywhere (length net.units) [] u)) tt;
      within = λ u. subst (All (λ j. j < noted_outs (kind_of net u))) (sym (same_everywhere (length net.units) [] u)) (All-nil (λ j. j < noted_outs (kind_of net u)));
      fired = λ u never. same_everywhere (length net.units) false u;
      queues = λ u never. same_everywhere (length net.units) no_part u;
    };
    tokens = λ c. subst (All (λ v. v < 2 ^ (chan_at net c).width)) (sym (same_everywhere (length net.chans) [] c)) (All-nil (λ v. v < 2 ^ (chan_at net c).width));
    units = λ u. none_units net (kind_of net u) (blank_parts net) u (same_everywhere (length net.units) [] u) (same_everywhere (length net.units) no_part u);
    value = λ x k. subst (λ f. ValueFits net.result f None) (sym (same_everywhere (length net.units) false x)) (none_value net.result);
    serials = λ u. subst (λ (q : QueuePart). q.next ≤ max_count) (sym (same_everywhere (length net.units) no_part u)) (omega arith);
    strays = λ a. subst (λ n. n ≤ max_count) (sym (same_everywhere (length net.arrays) 0 a)) (omega arith);
  };
}

pub blank_is : (net : Net) → BlankFired net 0 (record { made = 0; parts = blank_parts net })
blank_is net = record {
  within = omega arith;
  fired = λ u low. same_everywhere (length net.units) false u;
  chans = record { within = omega arith; tokens = λ c low. same_everywhere (length net.chans) [] c; forks = record { within = omega arith; sent = λ u low. same_everywhere (length net.units) [] u } };
}
