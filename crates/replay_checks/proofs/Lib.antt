mod FeedLaws
mod Given
