use Rattle.std.proofs.Common.{refl, codes, rules}
use Rattle.tbl_model.specs.Dumps.{dump_file}
use Rattle.dump_requests.proofs.files.write_image.Goals as goal

pub returns : goal.returns
unfolding dump_file
returns c = record {
  bytes = λ s seconds sub. rw (c.write_image_file.ensures.bytes, c.header-header.ensures.header (codes "Table image") s refl seconds sub) refl;
  room = search rules;
  len = search rules;
}
