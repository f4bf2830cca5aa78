use Rattle.std.proofs.Common.{◌≡◌, Some, ap}
use Rattle.el_base.specs.declared.span.Span.{Span}
use Rattle.c_meaning.specs.Runs.{How, normally, by_break, by_continue, by_return, undefined, out_of_turns}
use Rattle.c_meaning.specs.Statements.{first_of, kernel_run}
use Rattle.c_meaning.proofs.profile_laws.first_is_where_it_ends_undefined.Goals as goal

named_by : (h : How) (at : Span) → first_of h ≡ Some at → h ≡ undefined at
named_by normally at e = cc
named_by by_break at e = cc
named_by by_continue at e = cc
named_by (by_return v) at e = cc
named_by (undefined p) at e = cc
named_by out_of_turns at e = cc

pub returns : goal.returns
returns c = record {
  named = λ k p i n at e. named_by (kernel_run k p i n).how at e;
  every = λ k p i n at e. ap first_of e;
}
