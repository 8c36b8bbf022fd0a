use Rattle.std.proofs.Common.{◌≡◌, ◌++◌, ℕ, ◌+◌, length, ap, ◌∙◌, append_assoc, rules}
use Rattle.std.proofs.lemmas.List.{length-append}
use Rattle.tbl_kinds.specs.TableFiles.{TableFile, IsWritable, file_with, table_file}
use Rattle.cfe_headers.specs.FileHeaders.{header_of}
use Rattle.table_files.proofs.FileLaws.{length-table_file}
use Rattle.table_files.proofs.writing.write_image_file.Goals as goal

pub returns : goal.returns
unfolding file_with
returns c =
    let header = header_of c.args.header.now in
    let file : TableFile = record { offset = c.args.offset; name = c.args.name.now; image = c.args.image.now } in
    let writable : IsWritable header file = record {
      is_header = c.every_header_fits.ensures;
      subtype = c.requires.subtype;
      offset_fits = search rules;
      image_fits = c.requires.count;
      name_fits = c.fill_table_header.ensures.fits.within;
      no_zero = c.fill_table_header.ensures.fits.no_zero;
    } in
    let bytes : c.append-2.new.self.list ≡ c.args.out.now.list ++ table_file header file =
    rw (c.append-2.ensures.bytes, c.append.ensures.bytes, c.fill_table_header.ensures.bytes, c.fill_file_header.ensures) (simp append_assoc) in
    record {
      bytes = bytes;
      room = search rules;
      len = ap length bytes ∙ length-append c.args.out.now.list (table_file header file) ∙ ap (λ (n : ℕ). length c.args.out.now.list + n) (length-table_file header file writable);
      writable = writable;
    }
