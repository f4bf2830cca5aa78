-- The count of control tokens, and the acts that take one.
use Rattle.std.specs.Prelude.{ℕ, zero, suc, ◌+◌, ◌-◌, false, cond, length, get_or}
use Rattle.net_types.specs.declared.net.Unit.{Unit as Kind}
use Rattle.net_types.specs.declared.net.Unit.TheVariants.{Entry, Param, Const, Op1, Op2, Select, Fork, Mux, Cmerge, Branch, Sink, Read, Lsq, Exit}
use Rattle.net_types.specs.declared.net.Net.{Net}
use Rattle.net_types.specs.Nets.{chan_at, kind_of}
use Rattle.net_core.specs.Fire.{Own, State, idle, tokens_at}

-- w 0 + .. + w (n - 1)
abbrev pub total : (ℕ → ℕ) → ℕ → ℕ
total w zero = 0
total w (suc n) = w n + total w n

-- 1 where the unit is a fork that has sent its head on output 0 already
abbrev pub early : Kind → Own → ℕ
early Entry o = 0
early (Param j) o = 0
early (Const w n) o = 0
early (Op1 op) o = 0
early (Op2 op) o = 0
early (Select w) o = 0
early (Fork w outs) o = cond (get_or o.sent 0 false) 1 0
early (Mux w ins) o = 0
early (Cmerge ins) o = 0
early (Branch w) o = 0
early (Sink w) o = 0
early (Read a) o = 0
early (Lsq a d ps gs f) o = 0
early Exit o = 0

-- the tokens of a control channel, less a head that the fork at its end has sent on already; none of another channel
abbrev pub held : Net → State → ℕ → ℕ
held net s c =
    let to = (chan_at net c).to.unit in
    cond (chan_at net c).ctl (length (tokens_at s c) - early (kind_of net to) (get_or s.own to idle)) 0

-- 1 where the unit is an entry that has not fired
abbrev pub to_come : Kind → Own → ℕ
to_come Entry o = cond o.fired 0 1
to_come (Param j) o = 0
to_come (Const w n) o = 0
to_come (Op1 op) o = 0
to_come (Op2 op) o = 0
to_come (Select w) o = 0
to_come (Fork w outs) o = 0
to_come (Mux w ins) o = 0
to_come (Cmerge ins) o = 0
to_come (Branch w) o = 0
to_come (Sink w) o = 0
to_come (Read a) o = 0
to_come (Lsq a d ps gs f) o = 0
to_come Exit o = 0

abbrev pub coming : Net → State → ℕ → ℕ
coming net s u = to_come (kind_of net u) (get_or s.own u idle)

-- the effective control tokens of a state: those on control channels, less the heads of forks that have sent their
-- output 0 already, and one more while the entry has not fired
abbrev pub control_tokens : Net → State → ℕ
control_tokens net s = total (held net s) (length net.chans) + total (coming net s) (length net.units)
