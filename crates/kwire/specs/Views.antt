-- What is asked, as a borrowed request holds it.
use Rattle.std.specs.Prelude.{map, option_map}
use Rattle.std.specs.Option.{option_copied}
use Rattle.kwire.specs.declared.request.Ask.{Ask}
use Rattle.kwire.specs.declared.request.Ask.TheVariants.{Produce, Fetch, Metadata, Versions}
use Rattle.kwire.specs.declared.view.AskView.{AskView}
use Rattle.kwire.specs.declared.view.AskView.TheVariants.{Produce as ProduceView, Fetch as FetchView, Metadata as MetadataView, Versions as VersionsView}

abbrev pub ask_of : AskView → Ask
ask_of (ProduceView version transactional acks timeout topics) = Produce version (option_copied transactional) acks timeout topics
ask_of (FetchView version replica max_wait min_bytes max_bytes isolation topics) = Fetch version replica max_wait min_bytes max_bytes isolation topics
ask_of (MetadataView topics) = Metadata (option_map (map (λ name. name.now)) topics)
ask_of (VersionsView version) = Versions version
