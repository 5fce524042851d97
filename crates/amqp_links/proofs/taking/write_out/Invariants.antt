use Rattle.std.proofs.Common.{◌≡◌, ◌++◌, length, map}
use Rattle.amqp_links.specs.Parts.{Frame, output_of, emptied}
use Rattle.amqp_links.proofs.taking.write_out.Given as goal

-- what is left gives the whole
abbrev pub invariant-loop-frame : goal.invariant-loop-frame
invariant-loop-frame l = record {
  link : emptied l.link ≡ emptied l.fn.link;
  session : l.session ≡ l.fn.link.session;
  output : l.output ++ map (Frame l.session) (output_of l.link) ≡ l.fn.output ++ map (Frame l.session) (output_of l.fn.link);
}

abbrev pub decreases-loop-frame : goal.decreases-loop-frame
decreases-loop-frame l = length (output_of l.link)
