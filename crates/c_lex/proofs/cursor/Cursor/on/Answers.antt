use Rattle.std.proofs.Common.{refl, arith}
use Rattle.c_lex.proofs.Places.{at_more, offset_more, line_short, column_short}
use Rattle.c_lex.proofs.cursor.Cursor.on.Goals as goal

pub after-next-requires-clause-offset : goal.after-next-requires-clause-offset
after-next-requires-clause-offset c = omega (arith, c.loop-i.invariant.here, c.requires.within, c.requires.short)

pub after-next-requires-clause-line : goal.after-next-requires-clause-line
after-next-requires-clause-line c = omega (arith, line_short c.args.bytes.now c.loop-i.next c.loop-i.invariant.at, c.loop-i.invariant.here, c.requires.within, c.requires.short)

pub after-next-requires-clause-column : goal.after-next-requires-clause-column
after-next-requires-clause-column c = omega (arith, column_short c.args.bytes.now c.loop-i.next c.loop-i.invariant.at, c.loop-i.invariant.here, c.requires.within, c.requires.short)

pub loop-i-preserved : goal.loop-i-preserved
loop-i-preserved c = record {
  at = at_more c.args.bytes.now c.loop-i.next _ _ c.loop-i.i c.loop-i.invariant.at c.loop-i.invariant.here (omega (arith, c.requires.within)) refl c.after-next.ensures;
  here = offset_more c.loop-i.next _ _ c.loop-i.i c.loop-i.invariant.here c.after-next.ensures;
}
