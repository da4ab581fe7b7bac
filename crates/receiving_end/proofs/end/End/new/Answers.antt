-- `receiving_end::end::End::new` meets its contract.
use Rattle.receiving_end.proofs.Always.{always-formed}
use Rattle.receiving_end.proofs.Ratio.{always-ratio}
use Rattle.receiving_end.proofs.System.{system-bytes}
use Rattle.receiving_end.proofs.end.End.new.Goals as goal

pub returns : goal.returns
returns c = record {
  is = cc;
  always = always-formed;
  ratio = always-ratio;
  system = system-bytes;
}
