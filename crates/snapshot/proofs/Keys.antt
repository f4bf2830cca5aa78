-- The first letters of lines, by which lines of different kinds differ.
use Rattle.std.proofs.Common.{◌≡◌, ◌≢◌, ℕ, zero, suc, ◌+◌, ◌*◌, Bool, true, false, Option, Some, None, List, [], ◌∷◌, ◌++◌, map, length, get_or, codes, refl, ap, ◌∙◌, arith}
use Rattle.net_types.specs.declared.net.Net.{Net}
use Rattle.net_types.specs.Nets.{kind_of}
use Rattle.net_check.specs.Ends.{is_lsq}
use Rattle.lsq_core.specs.declared.part.QueuePart.{QueuePart}
use Rattle.net_core.specs.declared.parts.Parts.{Parts}
use Rattle.net_core.specs.Parts.{no_part}
use Rattle.snapshot.specs.Texts.{each, list_lines, fork_lines, chan_lines, part_lines, queue_lines, array_lines, stray_lines, value_lines, entry_line, end_line, from_value, from_chans, from_forks, from_queues, from_arrays, from_strays}

-- the first three letters
abbrev pub key : List ℕ → ℕ
key l = get_or l 0 0 * 65536 + get_or l 1 0 * 256 + get_or l 2 0

-- lines do not begin with one of these letters
abbrev pub Lacks : ℕ → List (List ℕ) → Type 0
Lacks k ls = (l : List ℕ) (more : List (List ℕ)) → ls ≡ l ∷ more → key l ≡ k → ⊥

lacks_append : (k : ℕ) (xs ys : List (List ℕ)) → Lacks k xs → Lacks k ys → Lacks k (xs ++ ys)
lacks_append k [] ys a b = b
lacks_append k (x ∷ xs) ys a b = λ l more e is. a x xs refl (ap (λ ls. key (get_or ls 0 [])) e ∙ is)

pub lacks_each : (k : ℕ) (f : ℕ → List (List ℕ)) (i n : ℕ) (rest : List (List ℕ)) → ((j : ℕ) → Lacks k (f j)) → Lacks k rest → Lacks k (each f i n ++ rest)
lacks_each k f i zero rest a b = b
lacks_each k f i (suc n) rest a b = by (f i) (a i) (lacks_each k f (suc i) n rest a b)
  where
    by : (ls : List (List ℕ)) → Lacks k ls → Lacks k (each f (suc i) n ++ rest) → Lacks k ((ls ++ each f (suc i) n) ++ rest)
    by [] c later = later
    by (x ∷ xs) c later = λ l more e is. c x xs refl (ap (λ ls. key (get_or ls 0 [])) e ∙ is)

-- one line, and none
lacks_one : (k : ℕ) (l : List ℕ) (ls : List (List ℕ)) → key l ≢ k → Lacks k (l ∷ ls)
lacks_one k l ls other m more e is = other (ap (λ ls. key (get_or ls 0 [])) e ∙ is)

lacks_none : (k : ℕ) → Lacks k []
lacks_none k l more e = absurd (let z = ap length e in omega arith)

abbrev value_key : ℕ
value_key = key (codes "val")

abbrev chan_key : ℕ
chan_key = key (codes "cha")

abbrev fork_key : ℕ
fork_key = key (codes "for")

abbrev queue_key : ℕ
queue_key = key (codes "que")

abbrev array_key : ℕ
array_key = key (codes "arr")

abbrev stray_key : ℕ
stray_key = key (codes "str")

abbrev end_key : ℕ
end_key = key (codes "end")

abbrev pub fired_key : ℕ
fired_key = key (codes "fir")

abbrev pub entry_key : ℕ
entry_key = key (codes "ent")

module _ (net : Net) (p : Parts) (k : ℕ) where
  lacks_strays : stray_key ≢ k → end_key ≢ k → Lacks k (from_strays net p)
  lacks_strays s e = lacks_each k (stray_lines net.arrays p.strays) 0 (length net.arrays) (end_line ∷ []) (λ j. lacks_one k _ [] s) (lacks_one k end_line [] e)

  pub lacks_arrays : array_key ≢ k → stray_key ≢ k → end_key ≢ k → Lacks k (from_arrays net p)
  lacks_arrays a s e = lacks_each k (array_lines net.arrays p.given.arrays) 0 (length net.arrays) (from_strays net p) (λ j. lacks_one k _ [] a) (lacks_strays s e)

  lacks_part : (b : Bool) (u : ℕ) (q : QueuePart) → queue_key ≢ k → Lacks k (part_lines b u q)
  lacks_part false u q o = lacks_none k
  lacks_part true u q o = lacks_one k _ (map entry_line q.entries) o

  pub lacks_queue : (u n : ℕ) → queue_key ≢ k → array_key ≢ k → stray_key ≢ k → end_key ≢ k → Lacks k (each (queue_lines (kind_of net) p.queues) u n ++ from_arrays net p)
  lacks_queue u n q a s e = lacks_each k (queue_lines (kind_of net) p.queues) u n (from_arrays net p) (λ j. lacks_part (is_lsq (kind_of net j)) j (get_or p.queues j no_part) q) (lacks_arrays a s e)

  pub lacks_queues : queue_key ≢ k → array_key ≢ k → stray_key ≢ k → end_key ≢ k → Lacks k (from_queues net p)
  lacks_queues q a s e = lacks_queue 0 (length net.units) q a s e

  lacks_fork : (u : ℕ) (js : List ℕ) → fork_key ≢ k → Lacks k (list_lines (codes "fork") u js)
  lacks_fork u [] o = lacks_none k
  lacks_fork u (j ∷ js) o = lacks_one k _ [] o

  pub lacks_forks : fork_key ≢ k → queue_key ≢ k → array_key ≢ k → stray_key ≢ k → end_key ≢ k → Lacks k (from_forks net p)
  lacks_forks f q a s e = lacks_each k (fork_lines p.sent) 0 (length net.units) (from_queues net p) (λ j. lacks_fork j (get_or p.sent j []) f) (lacks_queues q a s e)

  lacks_chan : (c : ℕ) (vs : List ℕ) → chan_key ≢ k → Lacks k (list_lines (codes "chan") c vs)
  lacks_chan c [] o = lacks_none k
  lacks_chan c (v ∷ vs) o = lacks_one k _ [] o

  pub lacks_chans : chan_key ≢ k → fork_key ≢ k → queue_key ≢ k → array_key ≢ k → stray_key ≢ k → end_key ≢ k → Lacks k (from_chans net p)
  lacks_chans c f q a s e = lacks_each k (chan_lines p.tokens) 0 (length net.chans) (from_forks net p) (λ j. lacks_chan j (get_or p.tokens j []) c) (lacks_forks f q a s e)

-- no line that a unit has fired comes after the last one, and so on
pub no_fired : (net : Net) (p : Parts) → Lacks fired_key (from_value net p)
no_fired net p = by p.value
  where
    chans : Lacks fired_key (from_chans net p)
    chans = lacks_chans net p fired_key (λ e. omega arith) (λ e. omega arith) (λ e. omega arith) (λ e. omega arith) (λ e. omega arith) (λ e. omega arith)

    by : (o : Option ℕ) → Lacks fired_key (value_lines o ++ from_chans net p)
    by None = chans
    by (Some v) = lacks_one fired_key _ (from_chans net p) (λ e. omega arith)

pub no_chan : (net : Net) (p : Parts) → Lacks chan_key (from_forks net p)
no_chan net p = lacks_forks net p chan_key (λ e. omega arith) (λ e. omega arith) (λ e. omega arith) (λ e. omega arith) (λ e. omega arith)

pub no_fork : (net : Net) (p : Parts) → Lacks fork_key (from_queues net p)
no_fork net p = lacks_queues net p fork_key (λ e. omega arith) (λ e. omega arith) (λ e. omega arith) (λ e. omega arith)

pub no_entry : (net : Net) (p : Parts) (u n : ℕ) → Lacks entry_key (each (queue_lines (kind_of net) p.queues) u n ++ from_arrays net p)
no_entry net p u n = lacks_queue net p entry_key u n (λ e. omega arith) (λ e. omega arith) (λ e. omega arith) (λ e. omega arith)
