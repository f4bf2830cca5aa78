-- The lines that were read so far, and the draft that they make.
use Rattle.std.proofs.Common.{◌≡◌, ◌≢◌, ℕ, ◌+◌, ◌<◌, List, [], ◌∷◌, ◌++◌, length, Ok, refl, sym, ap, subst, ◌∙◌, inl, inr, arith, append_assoc}
use Rattle.std.specs.List.{All}
use Rattle.std.proofs.lemmas.List.{append-nil, append_cancel_left, length-append}
use Rattle.std.proofs.lemmas.List.Elements.{All-append, All-nil}
use Rattle.net_types.specs.declared.net.Net.{Net}
use Rattle.net_types.specs.Nets.{kind_of}
use Rattle.net_text.specs.Bodies.{Complete, text_of}
use Rattle.net_text.proofs.Lists.{All_single}
use Rattle.net_text.proofs.Texts.{one_line}
use Rattle.snapshot.specs.declared.draft.Draft.{Draft}
use Rattle.snapshot.specs.declared.draft.Stage.{Stage}
use Rattle.snapshot.specs.declared.draft.Stage.TheVariants.{First, Made, Scalars, Fired, Chans, Forks, Queues, Opened, Entries, Arrays, Strays, Ended}
use Rattle.snapshot.specs.declared.saved.Saved.{Saved}
use Rattle.snapshot.specs.Refusals.{MaySave, Begins, Spells, IsWrongLine, IsCutShort, Says, texts}
use Rattle.snapshot.specs.Texts.{each, end_line, from_fired, from_value, from_chans, from_forks, from_queues, from_arrays, from_strays, value_lines, stray_lines, array_lines, queue_lines, fork_lines, chan_lines, fired_lines}
use Rattle.snapshot.specs.private.Drafts.{IsOne, Shares, left_at, Stands, Taken, Refuses, ToScalars, ToFired, ToChans, ToForks, ToQueues, ToOpened, ToArrays}

-- a state shares all with itself
self_scalars : (j : ℕ) (d : Saved) → ToScalars j d d
self_scalars j d = record { made = refl; scalars = λ i l. refl }

self_fired : (net : Net) (u : ℕ) (d : Saved) → ToFired net u d d
self_fired net u d = record { before = self_scalars _ d; fired = λ i l. refl }

self_chans : (net : Net) (c : ℕ) (d : Saved) → ToChans net c d d
self_chans net c d = record { before = self_fired net _ d; value = refl; tokens = λ i l. refl }

self_forks : (net : Net) (u : ℕ) (d : Saved) → ToForks net u d d
self_forks net u d = record { before = self_chans net _ d; sent = λ i l. refl }

self_queues : (net : Net) (u : ℕ) (d : Saved) → ToQueues net u d d
self_queues net u d = record { before = self_forks net _ d; queues = λ i l. refl }

self_opened : (net : Net) (u : ℕ) (d : Saved) → ToOpened net u d d
self_opened net u d = record { before = self_queues net u d; next = refl }

self_arrays : (net : Net) (a : ℕ) (d : Saved) → ToArrays net a d d
self_arrays net a d = record { before = self_queues net _ d; arrays = λ i l. refl }

shares_self : (net : Net) (stage : Stage) (d : Saved) → Shares net stage d d
shares_self net First d = tt
shares_self net Made d = tt
shares_self net (Scalars j) d = self_scalars j d
shares_self net (Fired u) d = self_fired net u d
shares_self net (Chans c) d = self_chans net c d
shares_self net (Forks u) d = self_forks net u d
shares_self net (Queues u) d = self_queues net u d
shares_self net (Opened u) d = self_opened net u d
shares_self net (Entries u i) d = record { before = self_opened net u d; long = refl; entries = λ j l. refl }
shares_self net (Arrays a) d = self_arrays net a d
shares_self net (Strays a) d = record { before = self_arrays net _ d; strays = λ i l. refl }
shares_self net Ended d = refl

-- but at the end there are lines left
some_append : (xs ys : List (List ℕ)) → ys ≢ [] → xs ++ ys ≢ []
some_append [] ys n e = n e
some_append (x ∷ xs) ys n e = absurd (let z = ap length e in omega arith)

some_cons : (x : List ℕ) (xs : List (List ℕ)) → x ∷ xs ≢ []
some_cons x xs e = absurd (let z = ap length e in omega arith)

module _ (net : Net) (s : Saved) where
  some_strays : from_strays net s.parts ≢ []
  some_strays = some_append (each (stray_lines net.arrays s.parts.strays) 0 (length net.arrays)) (end_line ∷ []) (some_cons end_line [])

  some_arrays : from_arrays net s.parts ≢ []
  some_arrays = some_append (each (array_lines net.arrays s.parts.given.arrays) 0 (length net.arrays)) (from_strays net s.parts) some_strays

  some_queues : from_queues net s.parts ≢ []
  some_queues = some_append (each (queue_lines (kind_of net) s.parts.queues) 0 (length net.units)) (from_arrays net s.parts) some_arrays

  some_forks : from_forks net s.parts ≢ []
  some_forks = some_append (each (fork_lines s.parts.sent) 0 (length net.units)) (from_queues net s.parts) some_queues

  some_chans : from_chans net s.parts ≢ []
  some_chans = some_append (each (chan_lines s.parts.tokens) 0 (length net.chans)) (from_forks net s.parts) some_forks

  some_value : from_value net s.parts ≢ []
  some_value = some_append (value_lines s.parts.value) (from_chans net s.parts) some_chans

  some_fired : from_fired net s.parts ≢ []
  some_fired = some_append (each (fired_lines s.parts.fired) 0 (length net.units)) (from_value net s.parts) some_value

  some_left : (stage : Stage) → stage ≢ Ended → left_at net stage s ≢ []
  some_left First n = some_cons _ _
  some_left Made n = some_cons _ _
  some_left (Scalars j) n = some_append _ _ some_fired
  some_left (Fired u) n = some_append _ _ some_value
  some_left (Chans c) n = some_append _ _ some_forks
  some_left (Forks u) n = some_append _ _ some_queues
  some_left (Queues u) n = some_append _ _ some_arrays
  some_left (Opened u) n = some_append _ _ (some_append _ _ some_arrays)
  some_left (Entries u i) n = some_append _ _ (some_append _ _ some_arrays)
  some_left (Arrays a) n = some_append _ _ some_strays
  some_left (Strays a) n = some_append _ _ (some_cons end_line [])
  some_left Ended n = absurd (n refl)

-- lines lead to a draft: the states that may be saved and have these lines first share what it tells, and only these
pub record Reached (net : Net) (ls : List (List ℕ)) (d : Draft) : Type 0 where
  pub stands : Stands net d
  pub forth : (s : Saved) → MaySave net s → (more : List (List ℕ)) → texts net s ≡ ls ++ more → Shares net d.stage d.saved s
  pub back : (s : Saved) → MaySave net s → Shares net d.stage d.saved s → texts net s ≡ ls ++ left_at net d.stage s

reached_first : (net : Net) (d : Draft) → d.stage ≡ First → Stands net d → Reached net [] d
reached_first net d e st = record {
  stands = st;
  forth = λ s m more is. subst (λ stage. Shares net stage d.saved s) (sym e) tt;
  back = λ s m sh. ap (λ stage. left_at net stage s) (sym e);
}

-- what is left after the lines
left_is : (net : Net) (ls : List (List ℕ)) (d : Draft) (r : Reached net ls d) (s : Saved) → MaySave net s → (more : List (List ℕ)) → texts net s ≡ ls ++ more → left_at net d.stage s ≡ more
left_is net ls d r s m more e = append_cancel_left ls (left_at net d.stage s) more (sym (r.back s m (r.forth s m more e)) ∙ e)

reached_more : (net : Net) (ls : List (List ℕ)) (l : List ℕ) (d new : Draft) → Reached net ls d → Taken net (Shares net d.stage d.saved) (left_at net d.stage) l new → Reached net (ls ++ l ∷ []) new
reached_more net ls l d new r t = record {
  stands = t.stands;
  forth = λ s m more e. (let w : texts net s ≡ ls ++ l ∷ more = e ∙ append_assoc ls (l ∷ []) more in t.takes.forth s m (r.forth s m (l ∷ more) w) more (left_is net ls d r s m (l ∷ more) w));
  back = λ s m sh. (let b = t.takes.back s m sh in r.back s m b.0 ∙ ap (λ k. ls ++ k) b.1 ∙ sym (append_assoc ls (l ∷ []) (left_at net new.stage s)));
}

reached_begins : (net : Net) (ls : List (List ℕ)) (d : Draft) → Reached net ls d → Begins net ls
reached_begins net ls d r = record { saved = d.saved; may = r.stands.may; more = left_at net d.stage d.saved; whole = r.back d.saved r.stands.may (shares_self net d.stage d.saved) }

reached_misplaced : (net : Net) (ls : List (List ℕ)) (l : List ℕ) (d : Draft) → Reached net ls d → Refuses net (Shares net d.stage d.saved) (left_at net d.stage) l → Begins net (ls ++ l ∷ []) → ⊥
reached_misplaced net ls l d r never b =
    let w : texts net b.saved ≡ ls ++ l ∷ b.more = b.whole ∙ append_assoc ls (l ∷ []) b.more in
    never b.saved b.may (r.forth b.saved b.may (l ∷ b.more) w) b.more (left_is net ls d r b.saved b.may (l ∷ b.more) w)

reached_unended : (net : Net) (ls : List (List ℕ)) (d : Draft) → Reached net ls d → d.stage ≢ Ended → Spells net ls → ⊥
reached_unended net ls d r n w = some_left net w.saved d.stage n (left_is net ls d r w.saved w.may [] (w.whole ∙ sym (append-nil ls)))

-- the draft's state has these lines and no others
reached_whole : (net : Net) (ls : List (List ℕ)) (d : Draft) → Reached net ls d → d.stage ≡ Ended → texts net d.saved ≡ ls
reached_whole net ls d r e = r.back d.saved r.stands.may (shares_self net d.stage d.saved) ∙ ap (λ stage. ls ++ left_at net stage d.saved) e ∙ append-nil ls

-- it is the only one with them
reached_one : (net : Net) (ls : List (List ℕ)) (d : Draft) → Reached net ls d → d.stage ≡ Ended → IsOne net d.saved
reached_one net ls d r e s m same = subst (λ stage. Shares net stage d.saved s) e (r.forth s m [] (same ∙ reached_whole net ls d r e ∙ sym (append-nil ls)))

-- ---- the bytes

-- the complete lines so far, and what is left of the bytes
pub record Read (net : Net) (bytes : List ℕ) (d : Draft) (rest : List ℕ) (number : ℕ) : Type 0 where
  pub ls : List (List ℕ)
  pub complete : All Complete ls
  pub whole : bytes ≡ text_of ls ++ rest
  pub counted : number ≡ length ls + 1
  pub reached : Reached net ls d

pub read_first : (net : Net) (bytes : List ℕ) (d : Draft) → d.stage ≡ First → Stands net d → Read net bytes d bytes 1
read_first net bytes d e st = record { ls = []; complete = All-nil Complete; whole = refl; counted = refl; reached = reached_first net d e st }

pub read_more : (net : Net) (bytes rest line after : List ℕ) (d new : Draft) (n : ℕ) → Read net bytes d rest n → rest ≡ line ++ 10 ∷ after → Complete line
    → Taken net (Shares net d.stage d.saved) (left_at net d.stage) line new → Read net bytes new after (n + 1)
read_more net bytes rest line after d new n r e one t = record {
  ls = r.ls ++ line ∷ [];
  complete = All-append Complete r.ls (line ∷ []) r.complete (All_single Complete line one);
  whole = one_line r.ls bytes rest line after r.whole e;
  counted = omega (arith, r.counted, length-append r.ls (line ∷ []));
  reached = reached_more net r.ls line d new r.reached t;
}

pub says_wrong : (net : Net) (bytes rest line after : List ℕ) (d : Draft) (n : ℕ) → Read net bytes d rest n → rest ≡ line ++ 10 ∷ after → Complete line
    → Refuses net (Shares net d.stage d.saved) (left_at net d.stage) line → IsWrongLine net bytes n
says_wrong net bytes rest line after d n r e one never = record {
  before = r.ls;
  complete = r.complete;
  counted = r.counted;
  rest = rest;
  whole = r.whole;
  wrong = inl (record { text = line; more = after; whole = e; one = one; begins = reached_begins net r.ls d r.reached; misplaced = reached_misplaced net r.ls line d r.reached never });
}

pub says_short : (net : Net) (bytes rest : List ℕ) (d : Draft) (n : ℕ) → Read net bytes d rest n → Complete rest → d.stage ≢ Ended → IsCutShort net bytes
says_short net bytes rest d n r one un = record {
  before = r.ls;
  complete = r.complete;
  rest = rest;
  whole = r.whole;
  incomplete = one;
  begins = reached_begins net r.ls d r.reached;
  unended = reached_unended net r.ls d r.reached un;
}

pub says_after : (net : Net) (bytes rest : List ℕ) (d : Draft) (n : ℕ) → Read net bytes d rest n → d.stage ≡ Ended → 0 < length rest → IsWrongLine net bytes n
says_after net bytes rest d n r e some = record {
  before = r.ls;
  complete = r.complete;
  counted = r.counted;
  rest = rest;
  whole = r.whole;
  wrong = inr (record { saved = d.saved; may = r.reached.stands.may; whole = reached_whole net r.ls d r.reached e }, some);
}

pub says_saved : (net : Net) (bytes rest : List ℕ) (d : Draft) (n : ℕ) → Read net bytes d rest n → d.stage ≡ Ended → rest ≡ [] → Says net bytes (Ok d.saved)
says_saved net bytes rest d n r e none = (
  r.reached.stands.may,
  r.whole ∙ ap (λ l. text_of r.ls ++ l) none ∙ append-nil (text_of r.ls) ∙ ap text_of (sym (reached_whole net r.ls d r.reached e)),
)

pub one_saved : (net : Net) (bytes rest : List ℕ) (d : Draft) (n : ℕ) → Read net bytes d rest n → d.stage ≡ Ended → IsOne net d.saved
one_saved net bytes rest d n r e = reached_one net r.ls d r.reached e
