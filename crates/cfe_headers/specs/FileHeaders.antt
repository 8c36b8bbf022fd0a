-- File headers and their faults, as the definitions speak of them.
use Rattle.tbl_kinds.specs.Headers.{Header, HeaderFlaw, short_header, other_content}
use Rattle.cfe_headers.specs.declared.file.FileHeader.{FileHeader}
use Rattle.cfe_headers.specs.declared.file.HeaderFault.{HeaderFault}
use Rattle.cfe_headers.specs.declared.file.HeaderFault.TheVariants.{Short, BadContent}

abbrev pub header_of : FileHeader → Header
header_of h = record {
  subtype = h.subtype;
  length = h.length;
  spacecraft = h.spacecraft;
  processor = h.processor;
  application = h.application;
  seconds = h.seconds;
  sub = h.sub;
  description = h.description;
}

-- the flaw that a fault names
abbrev pub header_flaw_of : HeaderFault → HeaderFlaw
header_flaw_of Short = short_header
header_flaw_of BadContent = other_content
