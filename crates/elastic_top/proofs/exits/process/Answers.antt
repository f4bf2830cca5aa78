use Rattle.std.proofs.Common.{◌∙◌, ap}
use Rattle.std.specs.Process.{exit_status}
use Rattle.command_words.specs.Commands.{texts}
use Rattle.elastic_top.specs.Faults.{IsTold}
use Rattle.elastic_top.proofs.EndLemmas.{answered_ends, wanting_ends, wordless_ends}
use Rattle.elastic_top.proofs.exits.process.Goals as goal

pub returns-in-Ok-after_the_first-clause-words : goal.returns-in-Ok-after_the_first-clause-words
returns-in-Ok-after_the_first-clause-words g c =
    let t = c.top.ensures in
    rw c.in-Ok.is
    (answered_ends (ap texts (c.deref.ensures.value ∙ c.in-Ok-after_the_first.ensures)) c.exit_code.ensures (record {
      usage = t.usage;
      no_command = t.no_command;
      statuses = t.statuses;
      codes = t.codes;
      unread_files = t.unread_files;
      read = t.read;
      unread = t.unread;
      long = t.long;
      long_file = t.long_file;
      long_always = t.long_always;
      done = t.done;
      write = t.write;
      cut = t.cut;
      out_same = t.out_same;
      refused = t.refused;
      complete = t.complete;
      err_same = t.err_same;
      err_usage = t.err_usage;
      err_write = t.err_write;
      err_memory = t.err_memory;
    }))

pub returns-in-Err-after_the_first-clause-words : goal.returns-in-Err-after_the_first-clause-words
returns-in-Err-after_the_first-clause-words g c = rw c.in-Ok.is (wanting_ends _ _ _ _ _ _ _ _ _ c.refuse.ensures.code c.refuse.ensures.told)

pub returns-in-Err-clause-no_words : goal.returns-in-Err-clause-no_words
returns-in-Err-clause-no_words g c =
    rw c.in-Err.is
    (wordless_ends c.in-Err.error c.words_fault.result (exit_status c.refuse-in-Err.result)
    (IsTold (g.E.Sink.written c.args.err.now) (g.E.Sink.written c.refuse-in-Err.new.err) (g.E.Sink.faults c.args.err.now) (g.E.Sink.faults c.refuse-in-Err.new.err))
    c.words_fault.ensures c.refuse-in-Err.ensures.told c.refuse-in-Err.ensures.code)
