-- Private: only contracts of private functions cite it. The blocks by what they read, write and jump to, and the walks back
-- along the jumps from the blocks that read a variable.
use Rattle.std.specs.Prelude.{◌≡◌, ◌<◌, ℕ, suc, Bool, true, false, ◌||◌, not, cond, List, [], ◌∷◌, ◌++◌, map, length, get_or, set}
use Rattle.std.specs.List.{Contains}
use Rattle.ir.specs.declared.cfg.CfgBlock.{CfgBlock}
use Rattle.block_args.specs.Live.{targets}
use Rattle.block_args.specs.Tables.{listed_at}

-- ---- blocks by numbers that they name

abbrev pub read_vars : CfgBlock → List ℕ
read_vars b = b.reads

abbrev pub written_vars : CfgBlock → List ℕ
written_vars b = map (λ x. x.var) b.writes

abbrev pub target_blocks : CfgBlock → List ℕ
target_blocks b = targets b.jump

-- the table with a block more at a number
abbrev pub put_at : List (List ℕ) → ℕ → ℕ → List (List ℕ)
put_at table n b = set table n (listed_at table n ++ b ∷ [])

-- the table with a block more at each of the numbers
abbrev pub put_at_all : List (List ℕ) → List ℕ → ℕ → List (List ℕ)
put_at_all table [] b = table
put_at_all table (n ∷ ns) b = put_at_all (put_at table n b) ns b

-- the table with the blocks numbered from b on, each at the numbers that it names
abbrev pub with_blocks : (CfgBlock → List ℕ) → List (List ℕ) → ℕ → List CfgBlock → List (List ℕ)
with_blocks names table b [] = table
with_blocks names table b (x ∷ xs) = with_blocks names (put_at_all table (names x) b) (suc b) xs

-- ---- marks of blocks

-- the marks with those of these blocks set
abbrev pub marked : List Bool → List ℕ → List Bool
marked marks [] = marks
marked marks (b ∷ bs) = marked (set marks b true) bs

-- ---- walks back

-- a walk back along the jumps, from the blocks that are read in, comes to the block: `before` are the blocks that jump to each
pub data Reached (before : List (List ℕ)) (closed : List Bool) (starts : List ℕ) : ℕ → Type 0 where
  at_start : (b : ℕ) → Contains starts b → Reached before closed starts b
  one_back : (c b : ℕ) → Reached before closed starts c → Contains (listed_at before c) b → get_or closed b false ≡ false → Reached before closed starts b

-- which blocks were seen, and which of them are still ahead
pub record Walk : Type 0 where
  pub seen : List Bool
  pub ahead : List ℕ

abbrev pub walk : List Bool → List ℕ → Walk
walk seen ahead = record { seen = seen; ahead = ahead }

-- a block that may be entered and that was not seen
abbrev pub is_new : List Bool → List Bool → ℕ → Bool
is_new closed seen b = not (get_or closed b false || get_or seen b true)

abbrev pub visited : List Bool → Walk → ℕ → Walk
visited closed w b = cond (is_new closed w.seen b) (walk (set w.seen b true) (w.ahead ++ b ∷ [])) w

abbrev pub visited_all : List Bool → Walk → List ℕ → Walk
visited_all closed w [] = w
visited_all closed w (b ∷ bs) = visited_all closed (visited closed w b) bs

-- the marks are those of the blocks that are reached
pub record AreReached (before : List (List ℕ)) (closed : List Bool) (starts : List ℕ) (seen : List Bool) : Type 0 where
  pub many : length seen ≡ length before
  pub sound : (b : ℕ) → get_or seen b false ≡ true → Reached before closed starts b
  pub all : (b : ℕ) → Reached before closed starts b → b < length before → get_or seen b false ≡ true
