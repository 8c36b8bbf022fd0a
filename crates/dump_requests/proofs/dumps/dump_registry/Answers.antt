use Rattle.std.proofs.Common.{◌≡◌, None, sym, refl}
use Rattle.tbl_model.specs.Dumps.{dump_registry_effect, registry_file}
use Rattle.desk.specs.Desk.{state_at}
use Rattle.desk.specs.Requests.{command}
use Rattle.dump_requests.specs.Dumps.{file_dump}
use Rattle.desk.proofs.Serving.{served_so}
use Rattle.dump_requests.proofs.dumps.dump_registry.Goals as goal

pub returns : goal.returns
unfolding dump_registry_effect
returns g c =
    let file = c.args.file.now in
    let contents = c.write_registry.new.out.list in
    record {
      served = served_so g.C.Validator (file_dump None file contents) (command (λ s. dump_registry_effect s file) 1) c.args.desk.now c.put_file.new.desk _ c.put_file.result
          (λ rest given.
          let s = state_at rest c.args.desk.now in
          let bytes : contents ≡ registry_file s = rw c.in_ok-contents.ensures.empty at (c.write_registry.ensures.bytes s (sym c.keep_check_words.ensures) refl refl) in
          rw bytes refl) refl refl (rw (c.keep_check_words.ensures, c.copy.ensures) at c.put_file.ensures.served);
    }
